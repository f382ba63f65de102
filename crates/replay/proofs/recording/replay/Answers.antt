use mathlib.Core.Path.{sym}
use native.Mathlib.Omega.{arith}
use lib.ListN.{length-take, length-drop}
use Rattle.replay.proofs.Refusals.{replay_said}
use Rattle.replay.proofs.Headers.{replay_short, replay_long, start_countable}
use Rattle.replay.proofs.recording.replay.Goals as goal

pub returns-then-bytes-lt5 : goal.returns-then-bytes-lt5
returns-then-bytes-lt5 c = replay_said _ (sym (replay_short _ (omega (arith, c.if-bytes-lt5.true))))

pub go_on-requires-clause-countable : goal.go_on-requires-clause-countable
go_on-requires-clause-countable c =
    start_countable _ c.read_start-start.ensures (simp (length-take, length-drop) (omega arith))

pub returns : goal.returns
returns c = replay_said _ (replay_long _ c.read_start-start.ensures c.go_on.ensures)
