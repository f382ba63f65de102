use Prim.Native.Nat.{◌/◌}
use lib.ListN.{length}
use Rattle.mesh_geometry.specs.Cover.{piece}
use Rattle.mesh_geometry.specs.Words.{read_points}
use Rattle.check_faults.specs.Outline.{same_ends}
use Rattle.check_searches.proofs.First.{Passed}
use Rattle.check_faults.proofs.outline.is_piece.Given as goal

abbrev pub invariant-loop-k : goal.invariant-loop-k
invariant-loop-k l = Passed (λ i. same_ends (piece l.positive (read_points l.outline) i) (record { start = l.p; end = l.q })) (length l.outline / 3) l.k
