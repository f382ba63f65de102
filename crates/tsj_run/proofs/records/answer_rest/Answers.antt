use Rattle.tsj_run.proofs.Rests.{rest_none}
use Rattle.tsj_run.proofs.records.answer_rest.Goals as goal

pub returns-in-None : goal.returns-in-None
returns-in-None c = rest_none _ c.in-None.is c.stopped.ensures
