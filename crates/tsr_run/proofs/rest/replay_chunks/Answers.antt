use borrow.Author.Rules.{rules}
use borrow.Author.Tests.{not-true, not-false}
use native.Mathlib.Omega.{arith}
use Rattle.tsr_run.proofs.Rests.{full_start, full_countable, full_more, full_step, full_end, full_stop}
use Rattle.tsr_run.proofs.rest.replay_chunks.Goals as goal

pub loop-read-init : goal.loop-read-init
loop-read-init c = (full_start _, search rules)

pub replay_chunk-piece-requires-clause-countable : goal.replay_chunk-piece-requires-clause-countable
replay_chunk-piece-requires-clause-countable c = full_countable c.loop-read.invariant.0 c.requires.countable (search rules)

pub returns-then-not-piece : goal.returns-then-not-piece
returns-then-not-piece c =
    let piece = c.replay_chunk-piece in
    full_end c.loop-read.invariant.0 piece.ensures (not-true piece.result.more c.if-not-piece.true)

pub loop-read-smaller : goal.loop-read-smaller
loop-read-smaller c =
    let piece = c.replay_chunk-piece in
    omega (arith, full_more piece.ensures (not-false piece.result.more c.if-not-piece.false))

pub loop-read-preserved : goal.loop-read-preserved
loop-read-preserved c =
    let piece = c.replay_chunk-piece in
    (full_step c.loop-read.invariant.0 piece.ensures (not-false piece.result.more c.if-not-piece.false), search rules)

pub returns : goal.returns
returns c = full_stop c.loop-read.invariant.0 c.loop-read.bytes c.loop-read-test.false c.stopped.ensures
