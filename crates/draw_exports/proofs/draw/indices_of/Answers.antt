use Rattle.draw_exports.proofs.Calls.{drew_called}
use Rattle.draw_exports.proofs.draw.indices_of.Goals as goal

pub returns : goal.returns
returns c = drew_called c.draw_indices-words.ensures c.of_drawn.ensures c.say_one.ensures
