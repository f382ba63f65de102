use mathlib.Core.Path.{◌∙◌}
use Rattle.std.proofs.Common.{Ok}
use Rattle.std.proofs.lemmas.Result.{err_from_is_err_and}
use Rattle.draw_floats.proofs.Verdicts.{judged, judged_refused}
use Rattle.draw_floats.proofs.room.judge.Goals as goal

pub returns-in_err-size : goal.returns-in_err-size
returns-in_err-size c =
    let p = err_from_is_err_and c.from_residual.result c.from_residual.ensures.1 in
    rw (p.1, p.2) (judged_refused _ _ _ c.args.settings c.args.patch _ c.in_err-size.ensures)

pub returns : goal.returns
returns c = c.find_room.ensures ∙ judged _ _ _ c.args.settings c.args.patch (Ok c.in_ok-size.size) c.in_ok-size.ensures
