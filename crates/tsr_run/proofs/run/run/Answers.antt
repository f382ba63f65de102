use native.Mathlib.Omega.{arith}
use Rattle.replay.proofs.Headers.{start_countable}
use Rattle.tsr_run.proofs.Runs.{ran}
use Rattle.tsr_run.proofs.run.run.Goals as goal

pub replay_rest-rest-requires-clause-countable : goal.replay_rest-rest-requires-clause-countable
replay_rest-rest-requires-clause-countable c = start_countable _ c.replay_header-start.ensures.is (omega arith)

pub returns : goal.returns
returns c = ran c.replay_header-start.ensures c.replay_rest-rest.ensures c.say-output.ensures
