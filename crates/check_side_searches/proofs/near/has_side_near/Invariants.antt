use Prim.Native.Nat.{◌-◌, ◌<◌}
use Rattle.check_side_searches.proofs.near.has_side_near.Given as goal

abbrev pub invariant-loop-reach : goal.invariant-loop-reach
invariant-loop-reach l = 0 < l.reach

abbrev pub decreases-loop-reach : goal.decreases-loop-reach
decreases-loop-reach l = l.count - l.reach
