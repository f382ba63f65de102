-- The two parts of a quad patch's points: `quad_patch e0 e1 e2 e3 rows columns` is the outline, then the inside. Assumes nothing.
use Rattle.std.specs.Prelude.{◌-◌, List, [], ◌∷◌}
use Rattle.mesh_geometry.specs.declared.Point.{Point}
use Rattle.mesh_geometry.specs.Edge.{Run, ring}
use Rattle.mesh_geometry.specs.QuadPoints.{quad_place, grid, inner}

abbrev pub quad_outline : Run → Run → Run → Run → List Point
quad_outline e0 e1 e2 e3 = ring quad_place 0 (e0 ∷ e1 ∷ e2 ∷ e3 ∷ []) 0

-- the inner grid
abbrev pub quad_inside : Run → Run → List Point
quad_inside rows columns = grid (inner rows columns) (rows.c - 1) (columns.c - 1)
