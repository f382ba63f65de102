use native.Mathlib.Omega.{arith}
use mathlib.Core.Path.{sym, ◌∙◌}
use Rattle.share_exports.proofs.Calls.{clear_bad, clear_unknown, clear_done}
use Rattle.share_exports.proofs.clear.yoktvarim_share_clear.Goals as goal

pub returns-then-not-accepts : goal.returns-then-not-accepts
returns-then-not-accepts c = clear_bad _ _ _ _ c.state_in-shared.ensures (sym c.accepts.ensures ∙ c.if-not-accepts.true)

pub returns-then-designer-gt1 : goal.returns-then-designer-gt1
returns-then-designer-gt1 c = clear_unknown _ _ _ _ c.state_in-shared.ensures
    (sym c.accepts.ensures ∙ c.if-not-accepts.false) (omega arith)

pub returns : goal.returns
returns c = clear_done _ _ _ _ c.state_in-shared.ensures
    (sym c.accepts.ensures ∙ c.if-not-accepts.false) (omega arith) c.designer_of.ensures
    c.clear-result.ensures c.words_of.ensures
