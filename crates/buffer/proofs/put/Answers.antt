use Rattle.buffer.proofs.Laws.{wrote_one}
use Rattle.buffer.proofs.put.Goals as goal

pub returns : goal.returns
returns g c = wrote_one c.requires
