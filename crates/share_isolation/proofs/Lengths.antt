-- Until it draws, a call uses only the lengths of the lists it is lent. Assumes nothing.
use Prim.Native.Nat.{ℕ}
use mathlib.Core.Path.{◌≡◌, sym, ap, ◌∙◌}
use mathlib.Core.List.{List}
use lib.ListN.{length}
use Rattle.patch.specs.declared.kinds.Patch.{Patch}
use Rattle.patch.specs.declared.settings.Settings.{Settings}
use Rattle.answer_codes.specs.AnswerCode.{AnswerCode}
use Rattle.share_state.specs.declared.state.Designer.{Designer}
use Rattle.share_state.specs.declared.state.State.{State}
use Rattle.share_draw.specs.declared.answer.DrawResult.{DrawResult}
use Rattle.share_answers.specs.Answers.{draw_code, draw_verdict}
use Rattle.share_state.specs.Operations.{unless_refused}
use Rattle.share_draw.specs.Operations.{drawn_state, DidDraw}

-- lists of equal lengths get the same answer, and the same state to pass on; for clearing the contract itself says so
pub by_lengths : (d : Designer) (s : State) (set : Settings) (p : Patch) {v v' i i' w w' j j' : List ℕ} (r q : DrawResult) → DidDraw d s set p v v' i i' r
    → DidDraw d s set p w w' j j' q → length v ≡ length w → length i ≡ length j → (draw_code r.answer ≡ draw_code q.answer) × (r.state ≡ q.state)
by_lengths d s set p {i = i} {w = w} r q h k m n =
    let told : draw_code r.answer ≡ draw_code q.answer =
    h.answer ∙ ap (λ (x : ℕ). draw_verdict d s set p x (length i)) m ∙ ap (draw_verdict d s set p (length w)) n ∙ sym k.answer in
    (told, h.state ∙ ap (λ (t : AnswerCode). unless_refused t.number (drawn_state d s set p) s) told ∙ sym k.state)
