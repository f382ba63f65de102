-- The calls after a start, and what one designer sees of them. Assumes nothing.
use Rattle.std.specs.Prelude.{ℕ, Bool, true, false, List, length}
use Rattle.patch.specs.declared.kinds.Patch.{Patch}
use Rattle.patch.specs.declared.settings.Settings.{Settings}
use Rattle.answer_codes.specs.AnswerCode.{AnswerCode}
use Rattle.tessellate.specs.Draws.{point_words}
use Rattle.share_state.specs.declared.state.Designer.{Designer}
use Rattle.share_state.specs.declared.state.Designer.TheVariants.{First, Second}
use Rattle.share_state.specs.declared.state.Share.{Share}
use Rattle.share_state.specs.declared.state.Quota.{Quota}
use Rattle.share_state.specs.declared.state.State.{State}
use Rattle.share_state.specs.SharedList.{share, part, appended}
use Rattle.share_state.specs.Answers.{accepted, clear_verdict}
use Rattle.share_answers.specs.Answers.{draw_verdict}
use Rattle.share_state.specs.Operations.{unless_refused, start_state, cleared_state}
use Rattle.share_draw.specs.Operations.{new_indices, drawn_state}
use Rattle.share_isolation.specs.Steps.{those, state_after, replies}

-- what a designer can ask for after the start
pub data Request : Type 0 where
  draw : Settings → Patch → Request
  clear : Request

-- a call: who asks, for what, and the lengths of the two lists lent
pub record Call : Type 0 where
  pub by : Designer
  pub request : Request
  pub vertices : ℕ
  pub indices : ℕ

-- the state and the two lists between two calls
pub record Session : Type 0 where
  pub state : State
  pub vertices : List ℕ
  pub indices : List ℕ

-- the answer to a call; of the lists only the lengths matter
unfoldable pub answer_to : State → Designer → Request → ℕ → ℕ → AnswerCode
answer_to s d (draw set p) v i = draw_verdict d s set p v i
answer_to s d clear v i = clear_verdict (accepted v i s)

-- a session after a request that was not refused
unfoldable pub served : Session → Designer → Request → Session
served s d (draw set p) = record {
  state = drawn_state d s.state set p;
  vertices = appended d (point_words set p) s.state.vertices s.vertices;
  indices = appended d (new_indices d s.state set p) s.state.indices s.indices;
}
served s d clear = record { state = cleared_state d s.state; vertices = s.vertices; indices = s.indices }

-- the answer to a call, and the session after it
abbrev pub answer : Session → Call → AnswerCode
answer s c = answer_to s.state c.by c.request c.vertices c.indices

abbrev pub session_after : Session → Call → Session
session_after s c = unless_refused (answer s c).number (served s c.by c.request) s

-- an answer, and the designer who gets it
pub record DesignerAnswer : Type 0 where
  pub to : Designer
  pub code : AnswerCode

-- the answer to a call, with its designer
abbrev pub reply : Session → Call → DesignerAnswer
reply s c = record { to = c.by; code = answer s c }

-- the answers to calls, and the session after them
abbrev pub answers : Session → List Call → List DesignerAnswer
answers s cs = replies session_after reply s cs

abbrev pub play : Session → List Call → Session
play s cs = state_after session_after s cs

-- whether two designers are the same
abbrev pub same_designer : Designer → Designer → Bool
same_designer First First = true
same_designer First Second = false
same_designer Second First = false
same_designer Second Second = true

-- the calls of one designer, and the answers to them
abbrev pub calls_of : Designer → List Call → List Call
calls_of d cs = those (λ c. same_designer d c.by) cs

abbrev pub answers_of : Designer → List DesignerAnswer → List DesignerAnswer
answers_of d xs = those (λ a. same_designer d a.to) xs

-- a designer's part of the state, with the lengths of the lists
pub record OwnState : Type 0 where
  pub vertex_length : ℕ
  pub index_length : ℕ
  pub vertices : Share
  pub indices : Share

abbrev pub own_state : Designer → State → OwnState
own_state d s = record { vertex_length = s.vertices.length; index_length = s.indices.length; vertices = share d s.vertices; indices = share d s.indices }

-- what a designer sees: the part of the state, and the words of both parts
pub record View : Type 0 where
  pub state : OwnState
  pub vertices : List ℕ
  pub indices : List ℕ

abbrev pub view : Designer → Session → View
view d s = record { state = own_state d s.state; vertices = part d s.state.vertices s.vertices; indices = part d s.state.indices s.indices }

-- the quota of a designer
abbrev pub quota_of : Designer → Quota → Quota → Quota
quota_of First a b = a
quota_of Second a b = b

-- the session that a start on the lists v and i begins
abbrev pub begun : Quota → Quota → List ℕ → List ℕ → Session
begun a b v i = record { state = start_state (length v) (length i) a b; vertices = v; indices = i }
