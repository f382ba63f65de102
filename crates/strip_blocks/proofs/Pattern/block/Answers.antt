use borrow.Author.Rules.{rules}
use native.Mathlib.Omega.{arith}
use Prim.Native.Nat.{ℕ}
use mathlib.Core.Path.{refl, ap, ◌∙◌}
use lib.ListN.{length}
use Rattle.buffer.specs.Over.{flat}
use Rattle.buffer.proofs.Laws.{count_begin, count_room, count_step, count_done, wrote_one}
use Rattle.strip_blocks.specs.Blocks.{pair_on}
use Rattle.strip_blocks.proofs.Blocks.{block_laid, pairs_size}
use Rattle.shifted_copies.proofs.Again.{wrote_whole}
use Rattle.strip_blocks.proofs.Pattern.block.Goals as goal

pub loop-i-init : goal.loop-i-init
loop-i-init c = count_begin 1 (λ j. refl) (omega arith)

pub loop-i-preserved : goal.loop-i-preserved
loop-i-preserved c =
    let l = c.loop-i in
    let line = c.from-line.ensures in
    let on = c.from-on.ensures in
    count_step (omega arith) (rw (← line, ← on) (wrote_one (count_room l.invariant (omega arith) (λ j. refl)))) l.invariant

pub returns : goal.returns
returns c =
    let a = c.args in
    let x = c.from-first.ensures in
    let all = block_laid a.self.now.positive a.self.now.words c.from-d.result c.from-first.result a.y a.self.now.laid (omega arith) in
    wrote_whole (ap length all ∙ pairs_size c.from-first.result a.y a.self.now.positive 0 4 ∙ search rules)
    (count_done (omega arith) c.loop-i.invariant) ∙ all ∙ ap (λ (k : ℕ). flat (pair_on a.self.now.positive k a.y) 0 4) x
