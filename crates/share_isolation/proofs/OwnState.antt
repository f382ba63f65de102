-- One designer alone: the answers and words that follow from the own part of the state and the own calls. Assumes nothing.
use Prim.Native.Nat.{ℕ, ◌+◌, ◌-◌, ◌/◌}
use mathlib.Core.List.{List}
use lib.ListN.{length}
use Rattle.buffer.specs.Over.{over}
use Rattle.patch.specs.declared.kinds.Patch.{Patch}
use Rattle.patch.specs.declared.settings.Settings.{Settings}
use Rattle.answer_codes.specs.AnswerCode.{AnswerCode}
use Rattle.tessellate.specs.Draws.{point_words}
use Rattle.share_state.specs.SharedList.{used_to}
use Rattle.share_state.specs.Answers.{lent, clear_verdict}
use Rattle.share_answers.specs.Answers.{share_verdict}
use Rattle.share_state.specs.Operations.{unless_refused}
use Rattle.share_draw.specs.Operations.{shifted_indices}
use Rattle.share_isolation.specs.Steps.{state_after, replies}
use Rattle.share_isolation.specs.Session.{Request, draw, clear, Call, DesignerAnswer, OwnState, View}

-- the answer to a request, with lists of v and i words lent
unfoldable pub answer_of : OwnState → Request → ℕ → ℕ → AnswerCode
answer_of a (draw set p) v i =
    share_verdict set p (lent v i a.vertex_length a.index_length) (a.vertices.used / 3) (a.vertices.quota - a.vertices.used)
    (a.indices.quota - a.indices.used)
answer_of a clear v i = clear_verdict (lent v i a.vertex_length a.index_length)

-- the own part of the state, with other numbers of used words
abbrev pub own_state_with : ℕ → ℕ → OwnState → OwnState
own_state_with v i a = record { vertex_length = a.vertex_length; index_length = a.index_length; vertices = used_to v a.vertices; indices = used_to i a.indices }

-- the index words that drawing appends
abbrev pub index_words_of : OwnState → Settings → Patch → List ℕ
index_words_of a set p = shifted_indices (a.vertices.used / 3) set p

-- the own part of the state after a request that was not refused
unfoldable pub own_state_served : OwnState → Request → OwnState
own_state_served a (draw set p) = own_state_with (a.vertices.used + length (point_words set p)) (a.indices.used + length (index_words_of a set p)) a
own_state_served a clear = own_state_with 0 0 a

-- the view after a request that was not refused
unfoldable pub view_served : View → Request → View
view_served w (draw set p) = record {
  state = own_state_served w.state (draw set p);
  vertices = over w.vertices w.state.vertices.used (point_words set p);
  indices = over w.indices w.state.indices.used (index_words_of w.state set p);
}
view_served w clear = record { state = own_state_served w.state clear; vertices = w.vertices; indices = w.indices }

-- the answer, the state and the view for one call
abbrev pub call_answer : OwnState → Call → AnswerCode
call_answer a c = answer_of a c.request c.vertices c.indices

abbrev pub own_state_next : OwnState → Call → OwnState
own_state_next a c = unless_refused (call_answer a c).number (own_state_served a c.request) a

abbrev pub view_next : View → Call → View
view_next w c = unless_refused (call_answer w.state c).number (view_served w c.request) w

abbrev pub own_reply : OwnState → Call → DesignerAnswer
own_reply a c = record { to = c.by; code = call_answer a c }

-- the answers to calls, and the view after them
abbrev pub own_state_answers : OwnState → List Call → List DesignerAnswer
own_state_answers a cs = replies own_state_next own_reply a cs

abbrev pub view_after : View → List Call → View
view_after w cs = state_after view_next w cs
