use native.Mathlib.Omega.{arith}
use Prim.Native.Nat.{suc, ◌+◌, ◌-◌}
use mathlib.Core.Path.{◌≡◌}
use Rattle.edge.proofs.Rows.{row_part}
use Rattle.edge.proofs.row_from.Goals as goal

pub returns : goal.returns
returns c =
    let a = c.args in
    let e : a.from + a.s.count + 1 - a.from ≡ suc a.s.count = omega arith in
    rw e (row_part a.rows.now a.from a.s.count a.s.scaled c.requires)
