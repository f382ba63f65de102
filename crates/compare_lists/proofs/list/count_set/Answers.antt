use native.Mathlib.Omega.{arith}
use mathlib.Core.Path.{refl}
use Rattle.compare_lists.proofs.Passing.{tally_start, tally_told, tally_done}
use Rattle.compare_lists.proofs.list.count_set.Goals as goal

pub loop-k-init : goal.loop-k-init
loop-k-init c = tally_start

pub loop-k-preserved : goal.loop-k-preserved
loop-k-preserved c = tally_told _ (omega arith) c.from-n.ensures refl c.loop-k.invariant

pub returns : goal.returns
returns c = tally_done c.loop-k-test.false c.loop-k.invariant
