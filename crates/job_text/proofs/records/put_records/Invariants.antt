use Prim.Native.Nat.{◌-◌}
use mathlib.Core.Path.{◌≡◌}
use lib.ListN.{length}
use Rattle.job_text.proofs.Answering.{Answering}
use Rattle.job_text.proofs.records.put_records.Given as goal

abbrev pub invariant-loop-at : goal.invariant-loop-at
invariant-loop-at l =
    Answering l.version l.bytes l.from l.out l.written l.at
    × ((l.most ≡ length l.initial.out - 286909) × (length l.out ≡ length l.initial.out) × (length l.vertices ≡ length l.initial.vertices) × (length l.indices ≡ length l.initial.indices))

abbrev pub decreases-loop-at : goal.decreases-loop-at
decreases-loop-at l = length l.bytes - l.at
