-- The contract of a call that writes, answer by answer. Assumes nothing.
use Prim.Native.Nat.{ℕ, suc, ◌<◌, ◌≤◌}
use mathlib.Core.Path.{◌≡◌, sym, ◌∙◌}
use mathlib.Core.Bool.{true, false}
use mathlib.Core.List.{List}
use borrow.Author.Tests.{lt-ltb, le-ltb}
use Rattle.answer_codes.specs.AnswerCode.{AnswerCode, refused}
use Rattle.answer_codes.specs.Drew.{Drew}
use Rattle.draw_exports.specs.Calls.{ListCalled}
use Rattle.call_answers.specs.Replies.{unknown_setting, bad_top, one_word, Says}
use Rattle.call_answers.proofs.Replies.{says_as}
use Rattle.call_inputs.specs.Inputs.{top_in}
use Rattle.job_fields.specs.Settings.{first_unknown_setting}
use Rattle.job_bytes.specs.Written.{takes_top}
use Rattle.job_writer.specs.Answers.{bytes_verdict, record_verdict}
use Rattle.job_words.specs.Inputs.{is_version, version_of_number, record_in}
use Rattle.job_exports.specs.Calls.{header_says, record_says}

module _ {t s : AnswerCode} {words l c' : List ℕ} {r : ℕ} (is : t ≡ s) where
  -- a refusal leaves the list unchanged
  pub kept : (k : ℕ) → s.number ≡ suc k → Says one_word s c' r → ListCalled t words l l c' r
  kept k e said = let z : r ≡ suc k = said.number ∙ e in record { says = says_as is said; list = rw z }

  -- what the operation did is what its call did
  pub done : {told : AnswerCode} {l' : List ℕ} → Drew told s words l l' → Says one_word told c' r → ListCalled t words l l' c' r
  done d said = record { says = says_as (is ∙ sym d.answer) said; list = rw said.number d.list }

-- ---- which answer is given
module _ (n have : ℕ) where
  pub header_other : is_version n ≡ false → header_says n have ≡ refused 6
  unfolding header_says
  header_other e = rw e

  pub header_known : is_version n ≡ true → header_says n have ≡ bytes_verdict 5 have
  unfolding header_says
  header_known e = rw e

module _ (n : ℕ) (bs : List ℕ) (have : ℕ) where
  pub record_other : is_version n ≡ false → record_says n bs have ≡ refused 6
  unfolding record_says
  record_other e = rw e

  module _ (e : is_version n ≡ true) where
    pub record_top : takes_top (version_of_number n) (top_in bs) ≡ false → record_says n bs have ≡ bad_top
    unfolding record_says
    record_top t = rw (e, t)

    module _ (t : takes_top (version_of_number n) (top_in bs) ≡ true) where
      pub record_unknown : first_unknown_setting bs 0 < 5 → record_says n bs have ≡ unknown_setting (first_unknown_setting bs 0)
      unfolding record_says
      record_unknown h = rw (e, t, lt-ltb (first_unknown_setting bs 0) 5 h)

      pub record_known : (ps : List ℕ) → 5 ≤ first_unknown_setting bs 0 → record_says n bs have ≡ record_verdict (version_of_number n) (record_in bs ps) have
      unfolding record_says
      record_known ps h = rw (e, t, le-ltb (first_unknown_setting bs 0) 5 h)
