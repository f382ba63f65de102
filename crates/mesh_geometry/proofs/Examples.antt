-- Small patches: their computed points, and runs that satisfy the hypotheses of the theorems. Assumes nothing.
use Prim.Native.Nat.{ℕ, ◌*◌}
use mathlib.Core.Path.{◌≡◌, refl}
use mathlib.Core.Bool.{false}
use mathlib.Core.List.{List, [], ◌∷◌}
use native.Mathlib.Omega.{arith}
use lib.ListN.{get_or}
use Rattle.edge.specs.Table.{table}
use Rattle.mesh_topology.specs.Nest.{nest}
use Rattle.mesh_topology.specs.Quad.{quad}
use Rattle.mesh_geometry.specs.declared.Point.{Point}
use Rattle.mesh_geometry.specs.Cover.{Cover}
use Rattle.mesh_geometry.specs.Faces.{faces_of}
use Rattle.mesh_geometry.specs.Edge.{Run, GoodRun, ring}
use Rattle.mesh_geometry.specs.TrianglePoints.{triangle_place, rings, triangle_patch, triangle_area}
use Rattle.mesh_geometry.specs.QuadPoints.{quad_place, grid, quad_patch, quad_area}
use Rattle.mesh_geometry.proofs.TrianglePatch.{patch_covers}
use Rattle.mesh_geometry.proofs.QuadPatch.{quad_covers}

abbrev p : ℕ → ℕ → ℕ → Point
p u v w = record { u = u; v = v; w = w }

-- the run with these places
abbrev run : List ℕ → ℕ → Run
run l c = record { q = λ i. get_or l i 0; c = c }

abbrev one : Run
one = run (0 ∷ 65536 ∷ []) 1

abbrev two : Run
two = run (0 ∷ 32768 ∷ 65536 ∷ []) 2

abbrev three : Run
three = run (0 ∷ 20000 ∷ 45536 ∷ 65536 ∷ []) 3

-- two rings, the inner one a triangle
odd_inside : triangle_patch two one one three
    ≡ (p 0 196608 0 ∷ p 0 98304 98304 ∷ p 0 0 196608 ∷ p 196608 0 0
    ∷ p 40000 116608 40000 ∷ p 40000 40000 116608 ∷ p 116608 40000 40000 ∷ [])
unfolding rings ring table
odd_inside = refl

-- two rings and the centre
even_inside : triangle_patch two three one (run (0 ∷ 7000 ∷ 32768 ∷ 58536 ∷ 65536 ∷ []) 4)
    ≡ (p 0 196608 0 ∷ p 0 98304 98304 ∷ p 0 0 196608 ∷ p 60000 0 136608 ∷ p 136608 0 60000 ∷ p 196608 0 0
    ∷ p 14000 168608 14000 ∷ p 14000 91304 91304 ∷ p 14000 14000 168608 ∷ p 91304 14000 91304 ∷ p 168608 14000 14000
    ∷ p 91304 91304 14000 ∷ p 65536 65536 65536 ∷ [])
unfolding rings ring table
even_inside = refl

-- two rows, and one column in the middle
grid_of_two : quad_patch two one three one three two
    ≡ (p 0 65536 0 ∷ p 0 32768 0 ∷ p 0 0 0 ∷ p 65536 0 0 ∷ p 65536 20000 0 ∷ p 65536 45536 0 ∷ p 65536 65536 0
    ∷ p 32768 20000 0 ∷ p 32768 45536 0 ∷ [])
unfolding ring table grid
grid_of_two = refl

-- runs with the required places, and patches that they cover
abbrev even : ℕ → ℕ → Run
even step c = record { q = λ i. i * step; c = c }

abbrev half : Run
half = even 32768 2

abbrev quarter : Run
quarter = even 16384 4

quarters : GoodRun quarter
quarters = record { first = refl; last = refl; rises = λ i l. omega arith; mirrors = λ i l. omega arith }

halves : GoodRun half
halves = record { first = refl; last = refl; rises = λ i l. omega arith; mirrors = λ i l. omega arith }

covered : Cover false triangle_area (ring triangle_place 0 (half ∷ quarter ∷ half ∷ []) 0) (triangle_patch half quarter half quarter)
    (faces_of false (triangle_patch half quarter half quarter) (nest 0 2 4 2 4))
covered = patch_covers _ _ _ _ halves quarters halves quarters (omega arith) false

quad_covered : Cover false quad_area (ring quad_place 0 (half ∷ quarter ∷ half ∷ half ∷ []) 0) (quad_patch half quarter half half quarter half)
    (faces_of false (quad_patch half quarter half half quarter half) (quad 0 2 4 2 2 4 2))
quad_covered = quad_covers _ _ _ _ _ _ halves quarters halves halves quarters halves (omega arith) (omega arith) false
