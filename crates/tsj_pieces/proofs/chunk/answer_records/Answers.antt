use borrow.Author.Rules.{rules}
use Rattle.tsj_pieces.proofs.Texts.{written_end}
use Rattle.tsj_pieces.proofs.chunk.answer_records.Goals as goal

pub returns-clause-taken : goal.returns-clause-taken
returns-clause-taken c = written_end c.loop-at.invariant.0 (search rules)
