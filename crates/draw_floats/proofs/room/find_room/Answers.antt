use native.Mathlib.Omega.{arith}
use borrow.Author.Tests.{lt-ltb, le-ltb}
use Rattle.draw_floats.specs.Answers.{floats_room_verdict}
use Rattle.draw_floats.proofs.room.find_room.Goals as goal

pub returns-then-vertex_words-words : goal.returns-then-vertex_words-words
unfolding floats_room_verdict
returns-then-vertex_words-words c = rw (lt-ltb _ _ c.if-vertex_words-words.true)

pub returns-then-index_words-counts : goal.returns-then-index_words-counts
unfolding floats_room_verdict
returns-then-index_words-counts c = rw (le-ltb _ _ c.if-vertex_words-words.false, lt-ltb _ _ c.if-index_words-counts.true)

pub returns-then-float_words-words : goal.returns-then-float_words-words
unfolding floats_room_verdict
returns-then-float_words-words c =
    rw (le-ltb _ _ c.if-vertex_words-words.false, le-ltb c.args.index_words c.args.counts.indices (omega arith), lt-ltb _ _ c.if-float_words-words.true)

pub returns : goal.returns
unfolding floats_room_verdict
returns c = rw (le-ltb _ _ c.if-vertex_words-words.false, le-ltb _ _ c.if-index_words-counts.false, le-ltb _ _ c.if-float_words-words.false)
