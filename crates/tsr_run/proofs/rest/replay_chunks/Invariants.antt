use borrow.Author.Rules.{rules}
use borrow.Author.Tests.{not-true, not-false}
use Prim.Native.Nat.{◌-◌}
use mathlib.Core.Path.{◌≡◌}
use native.Mathlib.Omega.{arith}
use lib.ListN.{length}
use Rattle.tsr_run.proofs.Rests.{Full, full_start, full_countable, full_more, full_step, full_end, full_stop}
use Rattle.tsr_run.proofs.rest.replay_chunks.Given as goal

abbrev pub invariant-loop-read : goal.invariant-loop-read
invariant-loop-read l =
    Full l.initial.so_far l.so_far l.read
    × ((length l.bytes ≡ length l.initial.bytes) × (length l.vertices ≡ length l.initial.vertices) × (length l.indices ≡ length l.initial.indices))

abbrev pub decreases-loop-read : goal.decreases-loop-read
decreases-loop-read l = 18446744073709551615 - l.read
