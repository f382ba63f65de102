use Rattle.draw_exports.proofs.Calls.{draw_refused, points_known}
use Rattle.draw_exports.proofs.draw.yoktvarim_draw_points.Goals as goal

pub returns-in-Ok : goal.returns-in-Ok
returns-in-Ok c = points_known c.args.settings.now c.args.levels.now c.in-Ok.ensures c.points_of.ensures

pub returns-in-Err : goal.returns-in-Err
returns-in-Err c = draw_refused c.args.settings.now c.args.levels.now _ c.in-Err.ensures c.say_one.ensures
