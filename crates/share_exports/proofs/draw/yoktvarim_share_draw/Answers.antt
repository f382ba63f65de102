use mathlib.Core.Path.{ap, ◌∙◌}
use Rattle.job_fields.specs.Settings.{settings_at}
use Rattle.share_exports.proofs.Calls.{draw_refused, draw_known}
use Rattle.share_exports.proofs.draw.yoktvarim_share_draw.Goals as goal

pub returns-in-Err : goal.returns-in-Err
returns-in-Err c =
    let a = c.args in
    draw_refused a.settings.now a.levels.now a.designer _ c.state_in-shared.ensures c.in-Err.ensures c.say_two.ensures

pub returns : goal.returns
returns c =
    let a = c.args in
    draw_known a.settings.now a.levels.now a.designer _
    c.state_in-shared.ensures c.in_default.ensures c.designer_of.ensures
    (c.read_settings.ensures ∙
    ap (settings_at c.args.settings.now 0)
    c.top_in-top.ensures)
    c.patch_in.ensures
    c.draw_known.ensures
