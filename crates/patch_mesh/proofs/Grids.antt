-- A quad patch that is not plain, from its levels: its points by number, and its triangles strip by strip and cell by cell. Assumes nothing.
use Prim.Native.Nat.{ℕ}
use mathlib.Core.Path.{◌≡◌}
use mathlib.Core.Bool.{false}
use mathlib.Core.Logic.{◌↔◌}
use mathlib.Core.List.{List, [], ◌∷◌}
use lib.Ieee.{Float}
use Rattle.level.specs.declared.Spacing.{Spacing}
use Rattle.level.specs.Segments.{inner_segments}
use Rattle.edge.proofs.Ends.{most}
use Rattle.patch.specs.declared.kinds.Patch.TheVariants.{Quads}
use Rattle.patch.specs.Every.{every}
use Rattle.patch.specs.Subdivide.{single, cut}
use Rattle.mesh_topology.specs.GridStrips.{grid_strips}
use Rattle.mesh_topology.proofs.GridStrips.{quad_exactly}
use Rattle.mesh_geometry.specs.declared.Point.{Point}
use Rattle.mesh_geometry.specs.Edge.{Run}
use Rattle.mesh_geometry.specs.RingPoints.{segments}
use Rattle.mesh_geometry.specs.GridPoints.{GridPoints}
use Rattle.mesh_geometry.proofs.GridPoints.{grid_exactly}
use Rattle.patch_mesh.specs.Points.{points, run}
use Rattle.patch_mesh.specs.Primitives.{triangles}
use Rattle.patch_mesh.specs.OuterEdges.{outer_edge}

module _ (s : Spacing) (t : ℕ) (a b c d i j : Float) (some : every (single s t) (a ∷ b ∷ c ∷ d ∷ i ∷ j ∷ []) ≡ false) where
  -- n and q of the outer edges, from their own levels, and of the rows and the columns
  abbrev outer : ℕ → Run
  outer = outer_edge s t (Quads a b c d i j)

  abbrev rows : Run
  rows = run (inner_segments s t i)

  abbrev columns : Run
  columns = run (inner_segments s t j)

  -- a list is that of the patch's points exactly if its points are those of the outline and the grid
  pub quad_points_exactly : (ps : List Point) → (ps ≡ points (cut s t (Quads a b c d i j))) ↔ GridPoints outer rows columns ps
  unfolding points
  quad_points_exactly ps = rw some (grid_exactly outer rows columns (λ k m h. most _ _ m) ps)

  -- the patch's triangles, strip by strip and cell by cell
  pub quad_strips : triangles (cut s t (Quads a b c d i j)) ≡ grid_strips (segments outer) rows.c columns.c
  unfolding triangles
  quad_strips = rw some (quad_exactly (segments outer) rows.c columns.c)
