-- The answer of a replay. Assumes nothing.
use Rattle.std.specs.Prelude.{ℕ, Result}
use Rattle.replay.specs.declared.answer.ReplayFailure.{ReplayFailure}

-- how many entries there are, all of which agree, or what is wrong first
abbrev pub Replay : Type 0
Replay = Result ℕ ReplayFailure
