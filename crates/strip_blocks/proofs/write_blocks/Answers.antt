use native.Mathlib.Omega.{arith}
use mathlib.Core.Path.{◌≡◌, ◌∙◌, sym}
use lib.ListN.{length}
use Rattle.buffer.proofs.Laws.{count_begin, count_room, count_step, count_done, wrote_as}
use Rattle.shifted_copies.proofs.Shifts.{copy_length}
use Rattle.strip_blocks.proofs.Blocks.{copy_first, copy_next}
use Rattle.strip_blocks.proofs.write_blocks.Goals as goal

pub loop-block-init : goal.loop-block-init
loop-block-init c =
    let a = c.args in
    let words = a.words.now in
    let size : length words ≡ 24 = omega arith in (
      count_begin 24 (λ j. copy_length 4 words j ∙ size) (omega arith),
      copy_first words (λ i. c.fits-words i),
      size,
    )

pub put_all-to-requires : goal.put_all-to-requires
put_all-to-requires c =
    let a = c.args in
    let l = c.loop-block in
    let size : length a.words.now ≡ 24 = omega arith in
    omega (arith, count_room l.invariant.0 (omega arith) (λ j. copy_length 4 a.words.now j ∙ size))

pub loop-block-preserved : goal.loop-block-preserved
loop-block-preserved c =
    let a = c.args in
    let l = c.loop-block in
    let r = c.raise.ensures in (
      count_step (omega arith) (wrote_as (λ ys. ys) (sym l.invariant.1) c.put_all-to.ensures) l.invariant.0,
      copy_next a.words.now l._block l.invariant.1 r,
      omega (arith, c.raise.auto.words),
    )

pub returns : goal.returns
returns c = count_done (omega arith) c.loop-block.invariant.0
