-- Answers as a number with values. Assumes nothing.
use Rattle.std.specs.Prelude.{ℕ, List, [], ◌∷◌}

-- an answer's number and its values
pub record AnswerCode : Type 0 where
  pub number : ℕ
  pub values : List ℕ

-- a number with no values
abbrev pub refused : ℕ → AnswerCode
refused n = record { number = n; values = [] }

-- answer 0 without values
abbrev pub done : AnswerCode
done = record { number = 0; values = [] }

-- drawn, with the count of one list
abbrev pub drew : ℕ → AnswerCode
drew n = record { number = 0; values = n ∷ [] }

-- drawn, with both counts
abbrev pub drew_both : ℕ → ℕ → AnswerCode
drew_both p i = record { number = 0; values = p ∷ i ∷ [] }
