-- The contract of drawing: the answer, the state to pass on, and both lists at exit. Assumes nothing.
use Rattle.std.specs.Prelude.{ℕ, ◌+◌, ◌≡◌, List, map, length}
use Rattle.patch.specs.declared.kinds.Patch.{Patch}
use Rattle.patch.specs.declared.settings.Settings.{Settings}
use Rattle.tessellate.specs.Draws.{point_words, connection_words}
use Rattle.share_state.specs.declared.state.Designer.{Designer}
use Rattle.share_state.specs.declared.state.State.{State}
use Rattle.share_draw.specs.declared.answer.DrawResult.{DrawResult}
use Rattle.share_state.specs.SharedList.{grown, appended}
use Rattle.share_state.specs.Operations.{unless_refused}
use Rattle.share_answers.specs.Answers.{draw_code, points_held, draw_verdict}

-- the index words of a patch, each plus the n points that the part holds already
abbrev pub shifted_indices : ℕ → Settings → Patch → List ℕ
shifted_indices n set p = map (λ x. n + x) (connection_words set p)

-- the index words that drawing appends
abbrev pub new_indices : Designer → State → Settings → Patch → List ℕ
new_indices d s set p = shifted_indices (points_held d s) set p

-- the state after a patch is drawn
abbrev pub drawn_state : Designer → State → Settings → Patch → State
drawn_state d s set p = record { vertices = grown d (point_words set p) s.vertices; indices = grown d (new_indices d s set p) s.indices }

-- the contract of drawing: v and i are the lists at entry, v' and i' at exit
pub record DidDraw (d : Designer) (s : State) (set : Settings) (p : Patch) (v v' i i' : List ℕ) (r : DrawResult) : Type 0 where
  pub answer : draw_code r.answer ≡ draw_verdict d s set p (length v) (length i)
  pub state : r.state ≡ unless_refused (draw_code r.answer).number (drawn_state d s set p) s
  pub vertices : v' ≡ unless_refused (draw_code r.answer).number (appended d (point_words set p) s.vertices v) v
  pub indices : i' ≡ unless_refused (draw_code r.answer).number (appended d (new_indices d s set p) s.indices i) i
