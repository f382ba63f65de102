use borrow.Author.Rules.{rules}
use borrow.Author.Tests.{not-true, not-false}
use mathlib.Core.Path.{sym, subst}
use Rattle.tsj_run.specs.Rests.{AnsweredRest}
use Rattle.tsj_run.proofs.Rests.{beyond, full_start, full_step, full_end, full_stop}
use Rattle.tsj_run.proofs.records.answer_chunks.Goals as goal

pub loop-read-init : goal.loop-read-init
loop-read-init c = (full_start _, search rules)

pub returns-then-not-piece : goal.returns-then-not-piece
returns-then-not-piece c =
    full_end c.loop-read.invariant.0 c.answer_chunk-piece.ensures (not-true c.answer_chunk-piece.result.more c.if-not-piece.true)

pub loop-read-preserved : goal.loop-read-preserved
loop-read-preserved c =
    (full_step c.loop-read.invariant.0 c.answer_chunk-piece.ensures (not-false c.answer_chunk-piece.result.more c.if-not-piece.false), search rules)

pub returns : goal.returns
returns c =
    let l = c.loop-read in
    subst (AnsweredRest _ _) (sym c.stopped.ensures) (full_stop l.invariant.0 l.bytes (beyond l.read l.written 9223372036854775808 c.loop-read-test.false))
