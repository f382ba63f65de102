-- The two parts of a triangle patch's points, where the inner level gives at least two segments: `triangle_patch e0 e1 e2 inside` is the
-- outline, then the inside. Assumes nothing.
use Rattle.std.specs.Prelude.{suc, ◌-◌, List, [], ◌∷◌}
use Rattle.mesh_geometry.specs.declared.Point.{Point}
use Rattle.mesh_geometry.specs.Edge.{Run, ring}
use Rattle.mesh_geometry.specs.TrianglePoints.{triangle_place, alike, rings}

abbrev pub triangle_outline : Run → Run → Run → List Point
triangle_outline e0 e1 e2 = ring triangle_place 0 (e0 ∷ e1 ∷ e2 ∷ []) 0

-- the rings inside the outline, or the centre
abbrev pub triangle_inside : Run → List Point
triangle_inside e = rings (alike (λ i. e.q (suc i)) (e.c - 2)) (e.q 1) (λ i. e.q (suc i)) (e.c - 2)
