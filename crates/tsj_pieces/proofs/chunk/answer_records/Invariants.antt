use Prim.Native.Nat.{◌-◌}
use mathlib.Core.Path.{◌≡◌}
use lib.ListN.{length}
use Rattle.tsj_pieces.proofs.Texts.{Written}
use Rattle.tsj_pieces.proofs.chunk.answer_records.Given as goal

abbrev pub invariant-loop-at : goal.invariant-loop-at
invariant-loop-at l =
    Written l.version l.bytes l.count l.at × ((length l.out ≡ length l.initial.out) × (length l.vertices ≡ length l.initial.vertices) × (length l.indices ≡ length l.initial.indices))

abbrev pub decreases-loop-at : goal.decreases-loop-at
decreases-loop-at l = length l.bytes - l.at
