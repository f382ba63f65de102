-- The points of the outline: point i of outer edge k is at place q(i) of that edge's own level. Assumes nothing.
use Prim.Native.Nat.{ℕ}
use mathlib.Core.Path.{◌≡◌}
use mathlib.Core.Logic.{◌↔◌}
use mathlib.Core.List.{List}
use Rattle.level.specs.declared.Spacing.{Spacing}
use Rattle.edge.specs.Table.{table}
use Rattle.edge.proofs.Ends.{most}
use Rattle.patch.specs.declared.kinds.Patch.{Patch}
use Rattle.patch.specs.declared.kinds.Patch.TheVariants.{Triangles, Quads, Isolines}
use Rattle.mesh_geometry.specs.declared.Point.{Point}
use Rattle.mesh_geometry.specs.Domain.{triangle, square}
use Rattle.mesh_geometry.specs.OuterRing.{OuterRing}
use Rattle.mesh_geometry.proofs.OuterRing.{outer_exactly}
use Rattle.patch_mesh.specs.InPatch.{domain_of}
use Rattle.patch_mesh.specs.Demand.{Surface, outline}
use Rattle.patch_mesh.specs.OuterEdges.{outer_edge}

-- a list is that of the outline exactly if its points are those of the outer edges
pub outline_exactly : (s : Spacing) (t : ℕ) (p : Patch) → Surface p → (ps : List Point) → (ps ≡ outline s t p) ↔ OuterRing (domain_of p) (outer_edge s t p) ps
unfolding table
outline_exactly s t (Triangles a b c i) f ps = outer_exactly triangle (outer_edge s t (Triangles a b c i)) (λ k i h. most _ _ i) ps
outline_exactly s t (Quads a b c d i j) f ps = outer_exactly square (outer_edge s t (Quads a b c d i j)) (λ k i h. most _ _ i) ps
outline_exactly s t (Isolines a b) f ps = absurd f
