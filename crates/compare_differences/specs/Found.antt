-- What the searches for a point and for a triangle establish. Assumes nothing.
use Rattle.std.specs.Prelude.{ℕ, ◌≤◌, ◌<◌, ◌≡◌, Bool, true, false, List, Option, Some, None, length}
use Rattle.mesh_geometry.specs.declared.Point.{Point}
use Rattle.mesh_geometry.specs.Cover.{Face}
use Rattle.mesh_geometry.specs.Faces.{at, face_of}
use Rattle.check_searches.specs.First.{some_below}
use Rattle.check_searches.specs.Points.{same_point}
use Rattle.check_searches.specs.Triangles.{triangle_at}
use Rattle.check_side_searches.specs.Same.{same_triangle}
use Rattle.strip.specs.declared.triangle.Triangle.{Triangle}
use Rattle.compare_differences.specs.Lacking.{Row}
use Rattle.compare_differences.specs.Meshes.{same_corners, same_face}

-- a search for p from number `from` up to `to` ended at r: point r equals p, unless r is `to`, and no point before r does
pub record Passed (ps : List Point) (from to : ℕ) (p : Point) (r : ℕ) : Type 0 where
  pub least : from ≤ r
  pub most : r ≤ to
  pub there : r < to → same_point (at ps r) p ≡ true
  pub none : (i : ℕ) → from ≤ i → i < r → same_point (at ps i) p ≡ false

-- r is the number of a point that equals p, or `count` if none of the first `count` points does
pub record PointFound (ps : List Point) (count : ℕ) (p : Point) (r : ℕ) : Type 0 where
  pub most : r ≤ count
  pub there : r < count → same_point (at ps r) p ≡ true
  pub none : r ≡ count → (i : ℕ) → i < count → same_point (at ps i) p ≡ false

-- the triangle's corners are numbers of points, and have 16 bits
pub record Cornered (n : ℕ) (t : Triangle) : Type 0 where
  pub a : t.a < n
  pub b : t.b < n
  pub c : t.c < n
  pub small_a : t.a < 65536
  pub small_b : t.b < 65536
  pub small_c : t.c < 65536

-- whether t is the triangle with these corners; false for every t if a corner is missing
abbrev pub is_match : Option Triangle → Triangle → Bool
is_match (Some s) t = same_triangle t s
is_match None t = false

-- m gives the corners of f among the points ps: a triangle by number is f exactly if it matches m
pub record Matched (ps : List Point) (f : Face) (m : Option Triangle) : Type 0 where
  pub each : (t : Triangle) → Cornered (length ps) t → same_face (face_of (at ps) t) f ≡ is_match m t

-- whether one of the triangles is t, up to rotation
abbrev pub some_triangle : List Triangle → Triangle → Bool
some_triangle ts t = some_below (λ i. same_triangle (triangle_at ts i) t) (length ts)

-- triangle k of ys has the same corners in the same order as triangle k of xs
pub record InPlace (xs ys : Row Face) (k : ℕ) : Type 0 where
  pub number : k < ys.count
  pub same : same_corners (ys.entry k) (xs.entry k) ≡ true
