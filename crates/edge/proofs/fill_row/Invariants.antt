use Prim.Native.Nat.{◌+◌, ◌-◌, ◌*◌, ◌≤◌}
use Rattle.edge.specs.Carries.{Divides}
use Rattle.edge.proofs.Outward.{Outward}
use Rattle.edge.proofs.fill_row.Given as goal

abbrev pub invariant-loop-left : goal.invariant-loop-left
invariant-loop-left l = (2 * l.left ≤ l.n + 2) × Divides (2147483648 * (l.n + 2 - 2 * l.left)) l.l l.reach × Outward l.initial.rows l.from l.n l.l l.left l.rows
