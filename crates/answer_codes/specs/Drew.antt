-- The answer of an operation that writes a list, and its list afterwards. Assumes nothing.
use Rattle.std.specs.Prelude.{ℕ, zero, suc, ◌≡◌, List}
use Rattle.buffer.specs.Over.{over}
use Rattle.answer_codes.specs.AnswerCode.{AnswerCode}

-- the list xs after an answer with this number: for 0 it begins with the words and is unchanged after them, else it is unchanged
abbrev pub list_after : {A : Type 0} → ℕ → List A → List A → List A
list_after zero xs words = over xs 0 words
list_after (suc n) xs words = xs

-- an operation answered t where `right` is the right answer, and its list xs became xs'
pub record Drew (t right : AnswerCode) (words xs xs' : List ℕ) : Type 0 where
  -- the right answer, with the count if drawn
  pub answer : t ≡ right
  -- if drawn, the list begins with the counted words and is unchanged after them; otherwise it is unchanged
  pub list : xs' ≡ list_after t.number xs words
