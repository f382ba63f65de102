use Rattle.draw_exports.proofs.Calls.{drew_called}
use Rattle.draw_exports.proofs.draw.points_of.Goals as goal

pub returns : goal.returns
returns c = drew_called c.draw_points-points.ensures c.of_drawn.ensures c.say_one.ensures
