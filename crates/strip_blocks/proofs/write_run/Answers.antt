use native.Mathlib.Omega.{arith}
use Prim.Native.Nat.{◌-◌, ◌*◌, ◌/◌}
use Rattle.strip_blocks.proofs.Blocks.{run_wrote}
use Rattle.strip_blocks.proofs.write_run.Goals as goal

pub returns : goal.returns
returns c =
    let a = c.args in
    let k = (a.n - 1) / 4 in
    run_wrote a.x a.y a.pattern.now.positive a.n k (a.n - 4 * k) (omega arith) (omega arith) (omega arith) (omega arith)
    c.block-words.ensures
    c.put_all.ensures
    c.raise.ensures (omega arith) c.write_blocks.ensures
