-- A start and the calls after it: what each call was lent, answered and left, by the contracts of the operations alone. Assumes nothing.
use Rattle.std.specs.Prelude.{ℕ, ◌≡◌, List, Ok, length}
use Rattle.patch.specs.declared.kinds.Patch.{Patch}
use Rattle.patch.specs.declared.settings.Settings.{Settings}
use Rattle.answer_codes.specs.AnswerCode.{AnswerCode}
use Rattle.share_state.specs.declared.state.Designer.{Designer}
use Rattle.share_state.specs.declared.state.Quota.{Quota}
use Rattle.share_state.specs.declared.state.State.{State}
use Rattle.share_draw.specs.declared.answer.DrawResult.{DrawResult}
use Rattle.share_state.specs.declared.answer.ClearResult.{ClearResult}
use Rattle.share_state.specs.Answers.{clear_code}
use Rattle.share_answers.specs.Answers.{draw_code}
use Rattle.share_state.specs.Operations.{unless_refused, DidStart, DidClear}
use Rattle.share_draw.specs.Operations.{DidDraw}
use Rattle.share_isolation.specs.Steps as steps
use Rattle.share_isolation.specs.Session.{draw, clear, Call, Session, DesignerAnswer}

-- a start with these quotas on the lists v and i was accepted, and began this session
pub data Begun (a b : Quota) (v i : List ℕ) : Session → Type 0 where
  begin : (s : State) → DidStart (length v) (length i) a b (Ok s) → Begun a b v i (record { state = s; vertices = v; indices = i })

-- the lists v and i, lent to a call with this answer, are the session's, unless the call was refused
pub record SameLists (s : Session) (t : AnswerCode) (v i : List ℕ) : Type 0 where
  pub vertices : t.number ≡ 0 → v ≡ s.vertices
  pub indices : t.number ≡ 0 → i ≡ s.indices

-- one call, given the session's state: its answer, and the session after it
pub data Made : Session → Call → DesignerAnswer → Session → Type 0 where
  drew : (s : Session) (d : Designer) (set : Settings) (p : Patch) (v v' i i' : List ℕ) (r : DrawResult) → DidDraw d s.state set p v v' i i' r
      → SameLists s (draw_code r.answer) v i
      → Made s (record { by = d; request = draw set p; vertices = length v; indices = length i }) (record { to = d; code = draw_code r.answer }) (record {
        state = r.state;
        vertices = unless_refused (draw_code r.answer).number v' s.vertices;
        indices = unless_refused (draw_code r.answer).number i' s.indices;
      })
  cleared : (s : Session) (d : Designer) (v i : List ℕ) (r : ClearResult) → DidClear d s.state (length v) (length i) r
      → Made s (record { by = d; request = clear; vertices = length v; indices = length i }) (record { to = d; code = clear_code r.answer })
      (record { state = r.state; vertices = s.vertices; indices = s.indices })

-- calls, their answers, and the session after them
abbrev pub Ran : Session → List Call → List DesignerAnswer → Session → Type 0
Ran s cs xs s' = steps.RanSteps Made s cs xs s'
