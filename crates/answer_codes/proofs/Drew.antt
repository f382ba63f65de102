-- The contract of an operation that writes a list, answer by answer. Assumes nothing.
use Prim.Native.Nat.{ℕ, suc}
use mathlib.Core.Path.{◌≡◌, sym, ◌∙◌}
use mathlib.Core.List.{List}
use Rattle.buffer.specs.Over.{over}
use Rattle.answer_codes.specs.AnswerCode.{AnswerCode, refused, drew}
use Rattle.answer_codes.specs.Drew.{Drew}

module _ {t right : AnswerCode} {words xs : List ℕ} where
  -- a refusal leaves the list as it was
  pub untouched : (n : ℕ) → t ≡ refused (suc n) → right ≡ refused (suc n) → Drew t right words xs xs
  untouched n e f = record { answer = e ∙ sym f; list = rw e }

  -- drawn: the list begins with the words
  pub written : {xs' : List ℕ} (n : ℕ) → t ≡ drew n → right ≡ drew n → xs' ≡ over xs 0 words → Drew t right words xs xs'
  written n e f h = record { answer = e ∙ sym f; list = rw e h }
