-- The contract of a call, for refused and for known settings. Assumes nothing.
use Prim.Native.Nat.{ℕ, suc}
use mathlib.Core.Path.{◌≡◌, sym, ap, ◌∙◌}
use mathlib.Core.List.{List, [], ◌∷◌}
use lib.ListN.{length}
use lib.Ieee.{Float}
use Rattle.patch.specs.declared.kinds.Patch.{Patch}
use Rattle.patch.specs.declared.settings.Settings.{Settings}
use Rattle.measure.specs.Sizes.{measure_verdict}
use Rattle.tessellate.specs.Answers.{points_verdict, indices_verdict}
use Rattle.answer_codes.specs.AnswerCode.{AnswerCode}
use Rattle.tessellate.specs.Draws.{point_words, connection_words}
use Rattle.answer_codes.specs.Drew.{Drew}
use Rattle.call_answers.specs.declared.reply.Reply.{Reply}
use Rattle.call_answers.specs.Clamps.{clamp_bytes, no_clamps}
use Rattle.call_answers.specs.Replies.{IsReply, unknown_setting, bad_top}
use Rattle.call_answers.proofs.Replies.{said_one, said_two, says_as}
use Rattle.std.proofs.Common.{Ok, Err}
use Rattle.call_inputs.specs.declared.asked.Request.{Request}
use Rattle.call_inputs.specs.Inputs.{patch_in, settings_in}
use Rattle.call_inputs.specs.Asked.{known, asked_in}
use Rattle.call_inputs.proofs.Reading.{refused_instead, known_granted, granted}
use Rattle.draw_exports.specs.Calls.{MeasureCalled, ListCalled, PointsCalled, IndicesCalled}

-- equal answers have the same clamps
clamps_as : {t s : AnswerCode} → t ≡ s → clamp_bytes s.values ≡ clamp_bytes t.values
clamps_as e = ap (λ (x : AnswerCode). clamp_bytes x.values) (sym e)

module _ (bs : List ℕ) (xs : List Float) where
  -- ---- measuring
  pub measure_refused : {reply : Reply} {c' k' : List ℕ} {r : ℕ} → Err reply ≡ asked_in bs xs → (r ≡ reply.number) × (c' ≡ reply.first ∷ reply.second ∷ []) → k' ≡ no_clamps
      → MeasureCalled bs xs c' k' r
  measure_refused e s k =
      let i = refused_instead bs xs e in
      record { says = says_as (i.answer _) (said_two i.tells s); clamps = k ∙ sym i.clamps ∙ clamps_as (i.answer _) }

  pub measure_known : {request : Request} {told : AnswerCode} {reply : Reply} {c' k' : List ℕ} {r : ℕ} → Ok request ≡ asked_in bs xs → told ≡ measure_verdict request.settings request.patch
      → IsReply told reply → (r ≡ reply.number) × (c' ≡ reply.first ∷ reply.second ∷ []) → k' ≡ clamp_bytes told.values → MeasureCalled bs xs c' k' r
  measure_known e m t s k =
      let g = known_granted bs xs e in
      let right = rw (g.settings, g.patch) at m in
      record {
        says = says_as (granted g bad_top unknown_setting _ ∙ sym right) (said_two t s);
        clamps = k ∙ clamps_as (granted g bad_top unknown_setting _ ∙ sym right);
      }

  -- ---- drawing, points or indices
  -- a refusal leaves the list as it was, whatever the operation's answer would be
  pub draw_refused : (right : AnswerCode) {words l c' : List ℕ} {r : ℕ} {reply : Reply} → Err reply ≡ asked_in bs xs → (r ≡ reply.number) × (c' ≡ reply.first ∷ [])
      → ListCalled (known bs bad_top unknown_setting right) words l l c' r
  draw_refused right {r = r} e s =
      let i = refused_instead bs xs e in
      let said = said_one i.tells s in
      let z : r ≡ suc i.less = said.number ∙ i.number in
      record { says = says_as (i.answer right) said; list = rw z }

  -- known settings: the operation's answer, and the words that it draws, for these settings and this patch
  draw_known : (right : Settings → Patch → AnswerCode) (words : Settings → Patch → List ℕ) {l l' c' : List ℕ} {r : ℕ} {request : Request} → Ok request ≡ asked_in bs xs
      → ListCalled (right request.settings request.patch) (words request.settings request.patch) l l' c' r
      → ListCalled (known bs bad_top unknown_setting (right (settings_in bs) (patch_in bs xs))) (words (settings_in bs) (patch_in bs xs)) l l' c' r
  draw_known right words e d =
      let g = known_granted bs xs e in
      let drew = rw (g.settings, g.patch) at d in
      record { says = says_as (granted g bad_top unknown_setting _) drew.says; list = drew.list }

  pub points_known : {l l' c' : List ℕ} {r : ℕ} {request : Request} → Ok request ≡ asked_in bs xs
      → ListCalled (points_verdict request.settings request.patch (length l)) (point_words request.settings request.patch) l l' c' r
      → PointsCalled bs xs l l' c' r
  points_known {l = l} e d = draw_known (λ s p. points_verdict s p (length l)) point_words e d

  pub indices_known : {l l' c' : List ℕ} {r : ℕ} {request : Request} → Ok request ≡ asked_in bs xs
      → ListCalled (indices_verdict request.settings request.patch (length l)) (connection_words request.settings request.patch) l l' c' r
      → IndicesCalled bs xs l l' c' r
  indices_known {l = l} e d = draw_known (λ s p. indices_verdict s p (length l)) connection_words e d

-- the call drew and answered what its operation did
pub drew_called : {told right : AnswerCode} {words l l' c' : List ℕ} {r : ℕ} {reply : Reply} → Drew told right words l l' → IsReply told reply
    → (r ≡ reply.number) × (c' ≡ reply.first ∷ []) → ListCalled right words l l' c' r
drew_called d t s = let said = said_one t s in record { says = says_as (sym d.answer) said; list = rw said.number d.list }
