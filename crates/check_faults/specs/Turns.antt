-- Triangles with no area or the wrong orientation. Assumes nothing.
use Rattle.std.specs.Prelude.{ℕ, ◌≤◌, ◌<◌, Bool, true, false, not, List, length, ℤ, pos}
use Rattle.std.specs.Int.Signed.{lt_z}
use Rattle.strip.specs.declared.triangle.Triangle.{Triangle}
use Rattle.mesh_geometry.specs.declared.Point.{Point}
use Rattle.mesh_geometry.specs.Cover.{twice_area}
use Rattle.mesh_geometry.specs.Faces.{at, face_of}
use Rattle.check_searches.specs.First.{first}
use Rattle.check_searches.specs.Triangles.{triangle_at}

-- whether z is not 0 and has the sign of the orientation asked for
abbrev pub has_sign : Bool → ℤ → Bool
has_sign true z = lt_z (pos 0) z
has_sign false z = lt_z z (pos 0)

-- coordinates small enough for areas to be computed, as those of every point inside a patch are
pub record Small (p : Point) : Type 0 where
  pub u : p.u ≤ 196608
  pub v : p.v ≤ 196608

-- every point is small
pub record AllSmall (ps : List Point) : Type 0 where
  pub at : (k : ℕ) → k < length ps → Small (at ps k)

-- the triangle's corners are numbers of points
pub record Numbered (count : ℕ) (t : Triangle) : Type 0 where
  pub a : t.a < count
  pub b : t.b < count
  pub c : t.c < count

-- whether the triangle has no area or the wrong orientation
abbrev pub turns_wrong : Bool → List Point → Triangle → Bool
turns_wrong positive ps t = not (has_sign positive (twice_area (face_of (at ps) t)))

-- the first triangle that has no area or the wrong orientation
unfoldable pub first_turned : Bool → List Point → List Triangle → ℕ
first_turned positive ps ts = first (λ k. turns_wrong positive ps (triangle_at ts k)) (length ts)
