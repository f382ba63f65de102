use native.Mathlib.Omega.{arith}
use Prim.Native.Nat.{◌+◌, ◌*◌}
use mathlib.Core.Path.{refl, ap, ◌∙◌}
use lib.ListN.{set, length-set}
use Rattle.vertices.specs.Grids.{with_second}
use Rattle.vertices.proofs.Raised.{raised_more, raised_all}
use Rattle.vertices.proofs.grid.raise.Goals as goal

pub loop-i-init : goal.loop-i-init
unfolding with_second
loop-i-init c =
    (refl, refl)

pub loop-i-preserved : goal.loop-i-preserved
loop-i-preserved c =
    let a = c.args in
    let l = c.loop-i in (
      length-set l.row (3 * l.i + 1) a.v ∙ l.invariant.0,
      ap (λ xs. set xs (3 * l.i + 1) a.v) l.invariant.1 ∙ raised_more a.v l.i a.row.now (omega arith),
    )

pub returns : goal.returns
returns c =
    c.loop-i.invariant.1 ∙ raised_all c.args.v c.loop-i.i c.args.row.now (omega arith)
