-- Until it draws, a call from C uses only the lengths of the lists it is lent. Assumes nothing.
use Prim.Native.Nat.{ℕ}
use mathlib.Core.Path.{◌≡◌, sym, ap, ap₂, ◌∙◌}
use mathlib.Core.List.{List}
use lib.Ieee.{Float}
use lib.ListN.{length}
use Rattle.answer_codes.specs.AnswerCode.{AnswerCode}
use Rattle.call_answers.specs.Replies.{two_words}
use Rattle.call_inputs.specs.Inputs.{patch_in, settings_in}
use Rattle.share_state.specs.Operations.{unless_refused}
use Rattle.share_draw.specs.Operations.{drawn_state}
use Rattle.share_words.specs.Words.{state_in, state_words, designer_of}
use Rattle.share_words.specs.Memory.{Memory}
use Rattle.share_exports.specs.Calls.{draw_says, DrawCalled}

-- the same answer, the same counts and the same ten words
pub record SameAnswer (r s : ℕ) (c e w u : List ℕ) : Type 0 where
  pub number : r ≡ s
  pub counts : c ≡ e
  pub words : w ≡ u

-- lists of equal lengths get the same answer and leave the same state; for clearing the contract itself says so
pub by_lengths : (bs : List ℕ) (xs : List Float) (d : ℕ) {w v i l k c' e' : List ℕ} {after after' : Memory} {r s : ℕ}
    → DrawCalled bs xs d (record { words = w; vertices = v; indices = i }) after c' r → DrawCalled bs xs d (record { words = w; vertices = l; indices = k }) after' e' s
    → length v ≡ length l → length i ≡ length k → SameAnswer r s c' e' after.words after'.words
by_lengths bs xs d {w} h g m n =
    let says : ℕ → ℕ → AnswerCode = λ (a b : ℕ). draw_says bs d (designer_of d) (state_in w) (settings_in bs) (patch_in bs xs) a b in
    let told = ap₂ says m n in
    let number = h.says.number ∙ ap (λ (t : AnswerCode). t.number) told ∙ sym g.says.number in
    record {
      number = number;
      counts = h.says.counts ∙ ap (λ (t : AnswerCode). two_words t.values) told ∙ sym g.says.counts;
      words = h.state ∙ ap (λ (k : ℕ). unless_refused k (state_words (drawn_state (designer_of d) (state_in w) (settings_in bs) (patch_in bs xs))) w) number ∙ sym g.state;
    }
