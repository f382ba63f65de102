use Prim.Native.Nat.{◌≤◌}
use Rattle.check_watertight.specs.Closing.{AllMarked}
use Rattle.check_watertight.proofs.pieces.first_unmarked.Given as goal

abbrev pub invariant-loop-k : goal.invariant-loop-k
invariant-loop-k l = (l.k ≤ l.count) × AllMarked l.marks l.k
