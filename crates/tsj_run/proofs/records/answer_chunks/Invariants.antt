use Prim.Native.Nat.{◌-◌}
use mathlib.Core.Path.{◌≡◌}
use lib.ListN.{length}
use Rattle.tsj_run.proofs.Rests.{Full}
use Rattle.tsj_run.proofs.records.answer_chunks.Given as goal

abbrev pub invariant-loop-read : goal.invariant-loop-read
invariant-loop-read l =
    Full l.version l.read l.written
    × ((length l.bytes ≡ length l.initial.bytes) × (length l.out ≡ length l.initial.out) × (length l.vertices ≡ length l.initial.vertices) × (length l.indices ≡ length l.initial.indices))

abbrev pub decreases-loop-read : goal.decreases-loop-read
decreases-loop-read l = 18446744073709551615 - l.read
