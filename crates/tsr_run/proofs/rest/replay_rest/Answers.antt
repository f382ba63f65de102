use borrow.Author.Rules.{rules}
use mathlib.Core.Path.{sym, ◌∙◌}
use Rattle.tsr_run.proofs.Rests.{rest_chunks, rest_none}
use Rattle.tsr_run.proofs.rest.replay_rest.Goals as goal

pub returns-else-is_open : goal.returns-else-is_open
returns-else-is_open c = rest_none _ (sym c.is_open.ensures ∙ c.if-is_open.false) c.stopped.ensures
