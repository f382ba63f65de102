use native.Mathlib.Omega.{arith}
use mathlib.Core.Path.{ap, ◌∙◌, sym}
use Rattle.level.specs.Top.{is_top}
use Rattle.call_answers.proofs.Replies.{reply_as}
use Rattle.share_exports.proofs.Calls.{found_top, found_state, found_designer, found_setting, found_none}
use Rattle.share_exports.proofs.draw.admit.Goals as goal

pub returns-then-not-is_top : goal.returns-then-not-is_top
returns-then-not-is_top c =
    let a = c.args in
    let is = c.is_top.ensures ∙ ap is_top c.top_in-top.ensures in
    (omega (arith, c.bad_top.ensures), reply_as (found_top a.settings.now a.designer _ (sym is ∙ c.if-not-is_top.true)) c.bad_top.ensures)

pub returns-then-not-accepts : goal.returns-then-not-accepts
returns-then-not-accepts c =
    let a = c.args in
    let top = sym (c.is_top.ensures ∙ ap is_top c.top_in-top.ensures) ∙ c.if-not-is_top.false in
    (omega (arith, c.refusal.ensures), reply_as (found_state a.settings.now a.designer _ top (sym c.accepts.ensures ∙ c.if-not-accepts.true)) c.refusal.ensures)

pub returns-then-designer-gt1 : goal.returns-then-designer-gt1
returns-then-designer-gt1 c =
    let a = c.args in
    let top = sym (c.is_top.ensures ∙ ap is_top c.top_in-top.ensures) ∙ c.if-not-is_top.false in
    let told = c.refusal-then-designer-gt1.ensures in
    (omega (arith, told), reply_as (found_designer a.settings.now a.designer _ top (sym c.accepts.ensures ∙ c.if-not-accepts.false) (omega arith)) told)

pub returns-then-place-lt5 : goal.returns-then-place-lt5
returns-then-place-lt5 c =
    let a = c.args in
    let top = sym (c.is_top.ensures ∙ ap is_top c.top_in-top.ensures) ∙ c.if-not-is_top.false in
    let told = c.unknown_setting.ensures in (
      omega (arith, told),
      reply_as (found_setting a.settings.now a.designer _ top (sym c.accepts.ensures ∙ c.if-not-accepts.false) (omega arith) c.first_unknown-place.ensures (omega arith)) told,
    )

pub returns : goal.returns
returns c =
    let a = c.args in
    let top = sym (c.is_top.ensures ∙ ap is_top c.top_in-top.ensures) ∙ c.if-not-is_top.false in
    found_none a.settings.now a.designer _ top (sym c.accepts.ensures ∙ c.if-not-accepts.false) (omega arith) c.first_unknown-place.ensures (omega arith)
