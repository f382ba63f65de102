use borrow.Author.Rules.{rules}
use mathlib.Core.Path.{sym, ◌∙◌}
use native.Mathlib.Omega.{arith}
use Rattle.replay.proofs.Steps.{replaying_done, replaying_cut, replaying_differs, replaying_agrees}
use Rattle.replay.proofs.recording.replay_entries.Goals as goal

pub returns-then-not-same_outcome : goal.returns-then-not-same_outcome
returns-then-not-same_outcome c =
    replaying_differs c.loop-k.invariant.0 (omega arith)
    c.read_recorded-recorded.ensures
    c.replay_record-replayed.ensures (sym c.same_outcome.ensures ∙ c.if-not-same_outcome.true)

pub loop-k-preserved : goal.loop-k-preserved
loop-k-preserved c = (
  replaying_agrees c.loop-k.invariant.0 (omega arith)
      c.read_recorded-recorded.ensures
      c.replay_record-replayed.ensures (sym c.same_outcome.ensures ∙ c.if-not-same_outcome.false),
  search rules,
)

pub returns-then-bytes-ne0 : goal.returns-then-bytes-ne0
returns-then-bytes-ne0 c = replaying_cut c.loop-k.invariant.0 (omega arith) c.if-bytes-ne0.true

pub returns : goal.returns
returns c = replaying_done c.loop-k.invariant.0 (omega arith) (omega arith)
