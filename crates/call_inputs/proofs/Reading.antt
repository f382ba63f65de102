-- What reading a call's input gives, and what follows for the call. Assumes nothing.
use Prim.Native.Nat.{ℕ, suc, ◌<◌, ◌≤◌}
use mathlib.Core.Path.{◌≡◌, refl, sym, ap, ◌∙◌}
use mathlib.Core.Bool.{Bool, true, false, cond}
use mathlib.Core.List.{List}
use native.Mathlib.Omega.{arith}
use borrow.Author.Tests.{ltb-true, ltb-false}
use lib.Dec.{ltb}
use lib.Ieee.{Float}
use Rattle.level.specs.Top.{is_top}
use Rattle.patch.specs.declared.kinds.Patch.{Patch}
use Rattle.patch.specs.declared.settings.Settings.{Settings}
use Rattle.job_fields.specs.Settings.{first_unknown_setting, settings_at}
use Rattle.answer_codes.specs.AnswerCode.{AnswerCode}
use Rattle.call_answers.specs.declared.reply.Reply.{Reply}
use Rattle.call_answers.specs.Replies.{reply_of, IsReply, unknown_setting, bad_top}
use Rattle.call_answers.specs.Clamps.{clamp_bytes, no_clamps}
use Rattle.call_answers.proofs.Replies.{reply_is, reply_of_lem}
use Rattle.std.proofs.Common.{Result, Ok, Err}
use Rattle.call_inputs.specs.declared.asked.Request.{Request}
use Rattle.call_inputs.specs.Inputs.{top_in, patch_in, settings_in}
use Rattle.call_inputs.specs.Asked.{known, asked_in}
use Rattle.call_inputs.proofs.Known.{top_bad, setting_unknown, all_known}

-- ---- reading, return by return
module _ (bs : List ℕ) (xs : List Float) {top : ℕ} (last : top ≡ top_in bs) where
  pub asked_bad : {reply : Reply} → is_top top ≡ false → IsReply bad_top reply → Err reply ≡ asked_in bs xs
  asked_bad e h = ap Err (reply_is h) ∙ sym (top_bad bs _ _ _ (rw last at e))

  module _ {place : ℕ} (good : is_top top ≡ true) (first : place ≡ first_unknown_setting bs 0) where
    pub asked_unknown : {reply : Reply} → place < 5 → IsReply (unknown_setting place) reply → Err reply ≡ asked_in bs xs
    asked_unknown h t =
        ap Err (reply_is t ∙ ap (λ (n : ℕ). reply_of (unknown_setting n)) first)
        ∙ sym (setting_unknown bs _ (λ (n : ℕ). Err (reply_of (unknown_setting n))) _ (rw last at good) (rw first at h))

    pub asked_known : {set : Settings} {p : Patch} → 5 ≤ place → set ≡ settings_at bs 0 top → p ≡ patch_in bs xs → Ok (record { settings = set; patch = p }) ≡ asked_in bs xs
    asked_known h es ep = rw (es, ep, last) (sym (all_known bs _ _ _ (rw last at good) (rw first at h)))

-- ---- what follows
-- a refused call: the refusal, whatever the operation would answer
pub record Instead (bs : List ℕ) (reply : Reply) : Type 0 where
  pub told : AnswerCode
  pub less : ℕ
  pub number : told.number ≡ suc less
  pub tells : IsReply told reply
  pub answer : (t : AnswerCode) → known bs bad_top unknown_setting t ≡ told
  pub clamps : clamp_bytes told.values ≡ no_clamps

-- a call with known settings: its operation answers
pub record Granted (bs : List ℕ) (xs : List Float) (set : Settings) (p : Patch) : Type 0 where
  pub top : is_top (top_in bs) ≡ true
  pub first : 5 ≤ first_unknown_setting bs 0
  pub settings : set ≡ settings_in bs
  pub patch : p ≡ patch_in bs xs

module _ (bs : List ℕ) (xs : List Float) where
  abbrev place : ℕ
  place = first_unknown_setting bs 0

  abbrev read : Bool → Bool → Result Request Reply
  read t u =
      cond t (cond u (Err (reply_of (unknown_setting place))) (Ok (record { settings = settings_in bs; patch = patch_in bs xs }))) (Err (reply_of bad_top))

  pub refused_instead : {reply : Reply} → Err reply ≡ asked_in bs xs → Instead bs reply
  unfolding known
  refused_instead {reply} e = go (is_top (top_in bs)) (ltb place 5) refl refl e
    where
      go : (t u : Bool) → is_top (top_in bs) ≡ t → ltb place 5 ≡ u → Err reply ≡ read t u → Instead bs reply
      go false u f g h =
          let k : reply ≡ reply_of bad_top = cc in
          record { told = bad_top; less = 10; number = refl; tells = reply_of_lem k; answer = λ t. top_bad bs bad_top unknown_setting t f; clamps = refl }
      go true true f g h =
          let k : reply ≡ reply_of (unknown_setting place) = cc in
          let low = ltb-true place 5 g in
          record {
            told = unknown_setting place;
            less = 7;
            number = refl;
            tells = reply_of_lem k;
            answer = λ t. setting_unknown bs bad_top unknown_setting t f low;
            clamps = refl;
          }
      go true false f g h = let z : ◌≡◌ {A = ℕ} 0 1 = cc in absurd (omega arith)

  pub known_granted : {request : Request} → Ok request ≡ asked_in bs xs → Granted bs xs request.settings request.patch
  unfolding known
  known_granted {request} e = go (is_top (top_in bs)) (ltb place 5) refl refl e
    where
      go : (t u : Bool) → is_top (top_in bs) ≡ t → ltb place 5 ≡ u → Ok request ≡ read t u → Granted bs xs request.settings request.patch
      go false u f g h = let z : ◌≡◌ {A = ℕ} 0 1 = cc in absurd (omega arith)
      go true true f g h = let z : ◌≡◌ {A = ℕ} 0 1 = cc in absurd (omega arith)
      go true false f g h =
          let k : request ≡ record { settings = settings_in bs; patch = patch_in bs xs } = cc in
          record { top = f; first = ltb-false place 5 g; settings = ap (λ (q : Request). q.settings) k; patch = ap (λ (q : Request). q.patch) k }

-- the operation's answer is the call's
module _ {bs : List ℕ} {xs : List Float} {set : Settings} {p : Patch} (g : Granted bs xs set p) where
  pub granted : {A : Type 0} (bad : A) (unknown : ℕ → A) (t : A) → known bs bad unknown t ≡ t
  granted bad unknown t = all_known bs bad unknown t g.top g.first
