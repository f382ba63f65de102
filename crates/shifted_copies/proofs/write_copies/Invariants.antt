use Prim.Native.Nat.{◌-◌}
use Rattle.shifted_copies.proofs.Shifts.{Copying}
use Rattle.shifted_copies.proofs.write_copies.Given as goal

abbrev pub invariant-loop-r : goal.invariant-loop-r
invariant-loop-r l = Copying l.initial.out l.at l.n l.k l.by l.r l.out l.to

abbrev pub decreases-loop-r : goal.decreases-loop-r
decreases-loop-r l = l.k - l.r
