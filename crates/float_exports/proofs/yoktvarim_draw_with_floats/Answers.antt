use Rattle.float_exports.proofs.Calls.{floats_refused, floats_known}
use Rattle.float_exports.proofs.yoktvarim_draw_with_floats.Goals as goal

pub returns-in-Ok : goal.returns-in-Ok
returns-in-Ok c =
    floats_known c.args.settings.now c.args.levels.now c.say_two.ensures c.draw_with_floats-answer.result c.in-Ok.ensures
    c.draw_with_floats-answer.ensures c.of_floats.ensures

pub returns-in-Err : goal.returns-in-Err
returns-in-Err c = floats_refused c.args.settings.now c.args.levels.now c.say_two-in-Err.ensures c.in-Err.ensures
