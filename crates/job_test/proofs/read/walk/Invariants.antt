use Prim.Native.Nat.{◌-◌}
use lib.ListN.{length}
use Rattle.job_test.proofs.read.walk.Given as goal

abbrev pub invariant-loop-out : goal.invariant-loop-out
invariant-loop-out l = Unit

abbrev pub decreases-loop-out : goal.decreases-loop-out
decreases-loop-out l = length l.bytes - l.at
