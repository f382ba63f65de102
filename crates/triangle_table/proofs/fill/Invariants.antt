use mathlib.Core.Path.{◌≡◌}
use lib.ListN.{length}
use Rattle.mesh_geometry.specs.Words.{read_triangles}
use Rattle.half_edge_chains.specs.Links.{Linked}
use Rattle.triangle_table.proofs.fill.Given as goal

abbrev pub invariant-loop-m : goal.invariant-loop-m
invariant-loop-m l = Linked (read_triangles l.indices) l.m l.heads l.links × (length l.heads ≡ length l.initial.heads) × (length l.links ≡ length l.initial.links)
