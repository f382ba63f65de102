-- A triangle patch that is not plain, from its levels: its points by number, and its triangles strip by strip. Assumes nothing.
use Prim.Native.Nat.{ℕ}
use mathlib.Core.Path.{◌≡◌}
use mathlib.Core.Bool.{false}
use mathlib.Core.Logic.{◌↔◌}
use mathlib.Core.List.{List, [], ◌∷◌}
use lib.Ieee.{Float}
use Rattle.level.specs.declared.Spacing.{Spacing}
use Rattle.level.specs.Top.{Top}
use Rattle.level.specs.Segments.{inner_segments}
use Rattle.level.proofs.Valid.{segments_valid, inner_valid}
use Rattle.patch.specs.declared.kinds.Patch.TheVariants.{Triangles}
use Rattle.patch.specs.Every.{every}
use Rattle.patch.specs.Subdivide.{single, cut}
use Rattle.mesh_topology.specs.RingStrips.{ring_strips}
use Rattle.mesh_topology.proofs.RingStrips.{nest_exactly}
use Rattle.mesh_geometry.specs.declared.Point.{Point}
use Rattle.mesh_geometry.specs.Edge.{Run}
use Rattle.mesh_geometry.specs.RingPoints.{segments, RingPoints}
use Rattle.mesh_geometry.proofs.Positions.{good_positions}
use Rattle.mesh_geometry.proofs.RingPoints.{rings_exactly}
use Rattle.patch_mesh.specs.Points.{points, run}
use Rattle.patch_mesh.specs.Primitives.{triangles}
use Rattle.patch_mesh.specs.Demand.{outer_level}
use Rattle.patch_mesh.specs.OuterEdges.{outer_edge}

module _ (s : Spacing) (t : ℕ) (a b c i : Float) (some : every (single s t) (a ∷ b ∷ c ∷ i ∷ []) ≡ false) where
  -- n and q of the outer edges, from their own levels, and of the inner level
  abbrev outer : ℕ → Run
  outer = outer_edge s t (Triangles a b c i)

  abbrev inside : Run
  inside = run (inner_segments s t i)

  -- a list is that of the patch's points exactly if its points are those of the rings
  pub triangle_points_exactly : Top t → (ps : List Point) → (ps ≡ points (cut s t (Triangles a b c i))) ↔ RingPoints outer inside ps
  unfolding points
  triangle_points_exactly top ps =
      rw some (rings_exactly outer inside (λ k _. good_positions _ _ (segments_valid s t top (outer_level (Triangles a b c i) k)))
      (good_positions _ _ (inner_valid s t top i)) ps)

  -- the patch's triangles, strip by strip
  pub triangle_strips : triangles (cut s t (Triangles a b c i)) ≡ ring_strips (segments outer) inside.c
  unfolding triangles
  triangle_strips = rw some (nest_exactly (segments outer) inside.c)
