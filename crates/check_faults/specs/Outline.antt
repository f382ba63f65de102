-- The pieces of the outline that are not sides, and the sides that have no reverse and are not pieces of the outline. Assumes nothing.
use Rattle.std.specs.Prelude.{ℕ, zero, suc, ◌*◌, ◌/◌, ◌%◌, ◌<◌, ◌≡◌, Bool, true, not, ◌&&◌, ◌||◌, List, length}
use Rattle.strip.specs.declared.triangle.Triangle.{Triangle}
use Rattle.mesh_geometry.specs.declared.Point.{Point}
use Rattle.mesh_geometry.specs.Cover.{Side, Face, piece}
use Rattle.mesh_geometry.specs.Faces.{at, face_of}
use Rattle.check_searches.specs.First.{first, some_below}
use Rattle.check_searches.specs.Points.{same_point}
use Rattle.check_searches.specs.Triangles.{triangle_at, some_side}
use Rattle.check_faults.specs.JudgedMesh.{JudgedMesh}

-- the directed sides are equal, by coordinates
abbrev pub same_ends : Side → Side → Bool
same_ends s r = same_point s.start r.start && same_point s.end r.end

-- whether the side is a piece of the outline
abbrev pub on_outline : Bool → List Point → Side → Bool
on_outline positive outline s = some_below (λ k. same_ends (piece positive outline k) s) (length outline)

-- the side x→y, with points in place of numbers
abbrev pub side_between : List Point → ℕ → ℕ → Side
side_between ps x y = record { start = at ps x; end = at ps y }

-- whether the side x→y is closed: its reverse is a side, or it is a piece of the outline
abbrev pub side_closed : JudgedMesh → ℕ → ℕ → Bool
side_closed mesh x y = some_side mesh.triangles y x || on_outline mesh.positive mesh.outline (side_between mesh.points x y)

-- the vertex where side e of a triangle starts; side 0 goes from the first corner to the second
abbrev pub start_corner : Triangle → ℕ → ℕ
start_corner t zero = t.a
start_corner t (suc zero) = t.b
start_corner t (suc (suc e)) = t.c

-- the vertex where side e of a triangle ends
abbrev pub end_of : Triangle → ℕ → ℕ
end_of t zero = t.b
end_of t (suc zero) = t.c
end_of t (suc (suc e)) = t.a

-- whether side number m is closed; each triangle has three sides
abbrev pub closes : JudgedMesh → ℕ → Bool
closes mesh m = let t = triangle_at mesh.triangles (m / 3) in side_closed mesh (start_corner t (m % 3)) (end_of t (m % 3))

-- the first side that is not closed
unfoldable pub first_open : JudgedMesh → ℕ
first_open mesh = first (λ m. not (closes mesh m)) (length mesh.triangles * 3)

-- the first n sides are closed
pub record ClosedTo (mesh : JudgedMesh) (n : ℕ) : Type 0 where
  pub each : (m : ℕ) → m < n → closes mesh m ≡ true

-- whether the directed side is one of the triangle's, by coordinates
abbrev pub bounds : Face → Side → Bool
bounds f s =
    same_ends (record { start = f.p; end = f.q }) s || same_ends (record { start = f.q; end = f.r }) s || same_ends (record { start = f.r; end = f.p }) s

-- whether the directed side is one of the mesh's
abbrev pub is_drawn : List Point → List Triangle → Side → Bool
is_drawn ps ts s = some_below (λ i. bounds (face_of (at ps) (triangle_at ts i)) s) (length ts)

-- whether piece k of the outline is a side
abbrev pub piece_drawn : JudgedMesh → ℕ → Bool
piece_drawn mesh k = is_drawn mesh.points mesh.triangles (piece mesh.positive mesh.outline k)

-- the first piece of the outline that is not a side
unfoldable pub first_missing : JudgedMesh → ℕ
first_missing mesh = first (λ k. not (piece_drawn mesh k)) (length mesh.outline)

-- the first n pieces are sides
pub record DrawnTo (mesh : JudgedMesh) (n : ℕ) : Type 0 where
  pub each : (k : ℕ) → k < n → piece_drawn mesh k ≡ true
