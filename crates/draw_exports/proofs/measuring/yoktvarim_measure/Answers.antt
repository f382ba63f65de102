use Rattle.draw_exports.proofs.Calls.{measure_refused, measure_known}
use Rattle.draw_exports.proofs.measuring.yoktvarim_measure.Goals as goal

pub returns-in-Ok : goal.returns-in-Ok
returns-in-Ok c =
    measure_known c.args.settings.now c.args.levels.now c.in-Ok.ensures c.measure-size.ensures c.of_size.ensures c.say_two.ensures c.say_clamps.ensures

pub returns-in-Err : goal.returns-in-Err
returns-in-Err c = measure_refused c.args.settings.now c.args.levels.now c.in-Err.ensures c.say_two-in-Err.ensures c.say_nothing.ensures
