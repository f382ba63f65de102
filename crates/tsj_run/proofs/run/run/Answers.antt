use Rattle.tsj_run.proofs.Runs.{ran}
use Rattle.tsj_run.proofs.run.run.Goals as goal

pub returns : goal.returns
returns c = ran c.answer_header-start.ensures.answered_header c.answer_rest-records.ensures
