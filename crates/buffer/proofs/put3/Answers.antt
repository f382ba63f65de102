use Rattle.buffer.proofs.Laws.{wrote_three}
use Rattle.buffer.proofs.put3.Goals as goal

pub returns : goal.returns
returns g c = wrote_three c.requires
