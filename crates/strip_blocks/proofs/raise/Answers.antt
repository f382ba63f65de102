use native.Mathlib.Omega.{arith}
use Rattle.buffer.proofs.Laws.{wrote_one}
use Rattle.strip_blocks.proofs.Blocks.{raise_start, raise_step}
use Rattle.strip_blocks.proofs.raise.Goals as goal

pub loop-x-init : goal.loop-x-init
loop-x-init c = raise_start c.args.by c.args.words.now

pub loop-x-preserved : goal.loop-x-preserved
loop-x-preserved c =
    raise_step c.args.by c.args.words.now c.loop-x.x-index (omega arith) c.loop-x.invariant c.from.ensures (wrote_one (omega arith))
