use Prim.Native.Nat.{◌≤◌}
use Rattle.check_watertight.proofs.pieces.find_piece.Given as goal

abbrev pub invariant-loop-k : goal.invariant-loop-k
invariant-loop-k l = l.k ≤ l.count
