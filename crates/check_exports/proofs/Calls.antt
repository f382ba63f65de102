-- The contract of the call, for refused and for known settings. Assumes nothing.
use Prim.Native.Nat.{ℕ}
use mathlib.Core.Path.{◌≡◌, sym, ◌∙◌}
use mathlib.Core.List.{List, [], ◌∷◌}
use lib.Ieee.{Float}
use Rattle.answer_codes.specs.AnswerCode.{AnswerCode}
use Rattle.check_verdict.specs.Faults.{Verdict}
use Rattle.check_soundness.specs.Means.{CheckedExactly}
use Rattle.check_soundness.specs.Numbers.{verdict_code}
use Rattle.call_answers.specs.declared.reply.Reply.{Reply}
use Rattle.call_answers.specs.Replies.{unknown_setting, bad_top, two_words, Says}
use Rattle.call_answers.proofs.Replies.{says_as}
use Rattle.call_inputs.specs.declared.asked.Request.{Request}
use Rattle.std.specs.Prelude.{Ok, Err}
use Rattle.call_inputs.specs.Asked.{asked_in}
use Rattle.call_inputs.proofs.Reading.{refused_instead, known_granted, granted}
use Rattle.check_words.specs.declared.found.PlacedReply.{PlacedReply}
use Rattle.check_words.specs.Founds.{Finds}
use Rattle.check_exports.specs.Founds.{check_says}

module _ {found : PlacedReply} {c' : List ℕ} {r : ℕ} (s : (r ≡ found.number) × (c' ≡ found.first ∷ found.second ∷ [])) where
  -- how an answer is reported
  said : {t : AnswerCode} → Finds t found → Says two_words t c' r
  said f = record { number = s.0 ∙ f.number; counts = s.1 ∙ rw (f.first, f.second) }

  -- which answer is given
  module _ (bs : List ℕ) (xs : List Float) (pw iw : List ℕ) where
    pub check_refused : {reply : Reply} → Err reply ≡ asked_in bs xs → (found.number ≡ reply.number) × (found.first ≡ reply.first) × (found.second ≡ reply.second)
        → Says two_words (check_says bs xs pw iw) c' r
    check_refused e (n, f, g) =
        let i = refused_instead bs xs e in
        says_as (i.answer _) (said (record { number = n ∙ i.tells.number; first = f ∙ i.tells.first; second = g ∙ i.tells.second }))

    pub check_known : {request : Request} {v : Verdict} → Ok request ≡ asked_in bs xs → CheckedExactly request.settings request.patch pw iw v → Finds (verdict_code v) found
        → Says two_words (check_says bs xs pw iw) c' r
    check_known e c f =
        let g = known_granted bs xs e in
        let right = rw (g.settings, g.patch) at c.answer in
        says_as (granted g bad_top unknown_setting _ ∙ sym right) (said f)
