use mathlib.Core.Path.{◌≡◌}
use lib.ListN.{length}
use Rattle.replay.proofs.Steps.{Replaying}
use Rattle.replay.proofs.recording.replay_entries.Given as goal

abbrev pub invariant-loop-k : goal.invariant-loop-k
invariant-loop-k l = Replaying l.first l.bytes l.k × ((length l.vertices ≡ length l.initial.vertices) × (length l.indices ≡ length l.initial.indices))
