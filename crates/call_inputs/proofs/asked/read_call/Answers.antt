use native.Mathlib.Omega.{arith}
use mathlib.Core.Path.{sym, ◌∙◌}
use Rattle.call_inputs.proofs.Reading.{asked_bad, asked_unknown, asked_known}
use Rattle.call_inputs.proofs.asked.read_call.Goals as goal

pub returns-then-not-is_top : goal.returns-then-not-is_top
returns-then-not-is_top c =
    let a = c.args in
    asked_bad a.settings.now a.levels.now c.top_in-top.ensures (sym c.is_top.ensures ∙ c.if-not-is_top.true) c.bad_top.ensures

pub returns-then-place-lt5 : goal.returns-then-place-lt5
returns-then-place-lt5 c =
    let a = c.args in
    asked_unknown a.settings.now a.levels.now c.top_in-top.ensures (sym c.is_top.ensures ∙ c.if-not-is_top.false)
    c.first_unknown-place.ensures c.if-place-lt5.true
    c.unknown_setting.ensures

pub returns : goal.returns
returns c =
    let a = c.args in
    asked_known a.settings.now a.levels.now c.top_in-top.ensures (sym c.is_top.ensures ∙ c.if-not-is_top.false) c.first_unknown-place.ensures (omega arith)
    c.read_settings.ensures c.patch_in.ensures
