-- A call that reports its operation's answer gives each answer exactly if it is right. Assumes nothing.
use Prim.Native.Nat.{ℕ}
use mathlib.Core.Path.{◌≡◌, sym, ap, ap₂, ◌∙◌}
use mathlib.Core.List.{List}
use mathlib.Core.Logic.{◌↔◌}
use Rattle.answer_codes.specs.Reports.{Reports, AnsweredExactly}

-- `right` is the operation's answer; `back` recovers it from the number and the words that are reported
module _ {A : Type 0} {number_of : A → ℕ} {words_of : A → List ℕ} (back : ℕ → List ℕ → A) {right : A} (same : back (number_of right) (words_of right) ≡ right)
    {w : List ℕ} {r : ℕ} (told : Reports number_of words_of right w r) where
  pub told_back : right ≡ back r w
  told_back = sym same ∙ ap₂ back (sym told.number) (sym told.words)

  -- the call gives the number n exactly if the answer with the number n and the words in memory is right
  pub number_exactly : {Means : A → Type 0} → ((a : A) → right ≡ a ↔ Means a) → (n : ℕ) → number_of (back n w) ≡ n → (r ≡ n) ↔ Means (back n w)
  number_exactly exact n e = (
    λ h. (exact (back n w)).0 (told_back ∙ ap (λ (k : ℕ). back k w) h),
    λ m. told.number ∙ ap number_of ((exact (back n w)).1 m) ∙ e,
  )

  -- an answer that `back` recovers is reported exactly if it is right
  pub reported_exactly : {Means : A → Type 0} → ((a : A) → right ≡ a ↔ Means a) → (a : A) → back (number_of a) (words_of a) ≡ a
      → Reports number_of words_of a w r ↔ Means a
  reported_exactly exact a e = (
    λ t. (exact a).0 (told_back ∙ ap₂ back t.number t.words ∙ e),
    λ m. let h = (exact a).1 m in record { number = told.number ∙ ap number_of h; words = told.words ∙ ap words_of h },
  )

  -- if `back` recovers every answer, each is given exactly if it is right
  pub answered_exactly : ((a : A) → back (number_of a) (words_of a) ≡ a) → {Means : A → Type 0} → ((a : A) → right ≡ a ↔ Means a)
      → AnsweredExactly number_of words_of Means w r
  answered_exactly every exact a = reported_exactly exact a (every a)
