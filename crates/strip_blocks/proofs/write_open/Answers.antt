use native.Mathlib.Omega.{arith}
use Rattle.strip_blocks.proofs.Blocks.{open_wrote}
use Rattle.strip_blocks.proofs.write_open.Goals as goal

pub returns : goal.returns
returns c =
    let a = c.args in
    open_wrote a.pattern.now.positive a.x a.y a.r (omega arith) (omega arith) c.write_run.ensures
    (omega arith) c.write_run-w.ensures (omega (arith, c.write_run-w.ensures.next))
