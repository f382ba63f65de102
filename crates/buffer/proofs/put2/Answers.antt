use Rattle.buffer.proofs.Laws.{wrote_two}
use Rattle.buffer.proofs.put2.Goals as goal

pub returns : goal.returns
returns g c = wrote_two c.requires
