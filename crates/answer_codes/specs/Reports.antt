-- Answers as calls report them: a number, and words in the caller's memory. Assumes nothing.
use Rattle.std.specs.Prelude.{ℕ, ◌≡◌, List, ◌↔◌}

-- the number r and the words w report the answer a
pub record Reports {A : Type 0} (number_of : A → ℕ) (words_of : A → List ℕ) (a : A) (w : List ℕ) (r : ℕ) : Type 0 where
  pub number : r ≡ number_of a
  pub words : w ≡ words_of a

-- for every answer a: r and w report a exactly if Means a holds
abbrev pub AnsweredExactly : {A : Type 0} → (A → ℕ) → (A → List ℕ) → (A → Type 0) → List ℕ → ℕ → Type 0
AnsweredExactly {A} number_of words_of Means w r = (a : A) → Reports number_of words_of a w r ↔ Means a
