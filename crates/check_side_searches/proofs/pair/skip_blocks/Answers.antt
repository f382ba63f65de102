use native.Mathlib.Omega.{arith}
use Rattle.check_side_searches.proofs.Skips.{skips_more, words_without}
use Rattle.check_side_searches.proofs.pair.skip_blocks.Goals as goal

pub loop-at-preserved : goal.loop-at-preserved
loop-at-preserved c =
    let l = c.loop-at in
    (omega arith, skips_more l.invariant.1 (omega arith) (omega arith) (λ i m n. words_without (c.holds.ensures c.if-holds.false) i (omega arith) (omega arith) (omega arith)))
