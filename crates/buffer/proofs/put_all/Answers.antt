use native.Mathlib.Omega.{arith}
use mathlib.Core.Path.{sym}
use Rattle.buffer.proofs.Laws.{over_none, over_next, over_done}
use Rattle.buffer.proofs.put_all.Goals as goal

pub loop-i-init : goal.loop-i-init
loop-i-init g c = sym (over_none c.args.out.now c.args.at)

pub loop-i-preserved : goal.loop-i-preserved
loop-i-preserved g c =
    let a = c.args in
    over_next a.out.now a.at a.items.now c.loop-i.i c.requires c.loop-i-test.true c.index-items-i.is c.loop-i.invariant

pub returns : goal.returns
returns g c = over_done c.args.out.now c.args.at c.args.items.now c.loop-i.i (omega arith) c.loop-i.invariant
