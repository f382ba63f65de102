-- What calls from C drew meets the Vulkan chapter, whichever calls they were; and the two drawing calls answer "discarded" exactly if the
-- chapter discards the patch. Assumes nothing.
use Prim.Native.Nat.{ℕ, ◌*◌}
use mathlib.Core.Path.{◌≡◌, refl, sym, ap, ◌∙◌}
use mathlib.Core.Bool.{Bool, true, false, cond}
use mathlib.Core.List.{List}
use native.Mathlib.Omega.{arith}
use lib.Dec.{ltb}
use lib.Ieee.{Float}
use lib.ListN.{length}
use Rattle.level.specs.Top.{Top, is_top}
use Rattle.patch.specs.declared.kinds.Patch.{Patch}
use Rattle.patch.specs.declared.settings.Settings.{Settings}
use Rattle.patch.specs.Subdivide.{discards}
use Rattle.mesh_geometry.specs.Words.{read_points}
use Rattle.job_fields.specs.Settings.{choices, AllBelow}
use Rattle.measure.specs.Sizes.{points_of, indices_of}
use Rattle.tessellate.specs.Answers.{list_verdict}
use Rattle.answer_codes.specs.AnswerCode.{AnswerCode, refused, drew}
use Rattle.level.proofs.Top.{top_as, is_top_lem}
use Rattle.call_answers.specs.Replies.{unknown_setting, bad_top}
use Rattle.call_inputs.specs.Inputs.{patch_in, settings_in}
use Rattle.call_inputs.specs.Asked.{known}
use Rattle.call_inputs.proofs.Known.{known_cases, not_all}
use Rattle.draw_exports.specs.Calls.{ListCalled, PointsCalled, IndicesCalled}
use Rattle.vulkan_chapter.specs.Chapter.{Chapter}
use Rattle.vulkan_chapter.proofs.Spacing.{our_edges}
use Rattle.vulkan_chapter.proofs.Discard.{discards_exactly}
use Rattle.vulkan_chapter.proofs.Drawn.{chapter}
use Rattle.drawn_calls.specs.Written.{CallDrew, CallConnected}
use Rattle.drawn_calls.specs.Discards.{DiscardedIn, CallDiscards}
use Rattle.drawn_calls.proofs.Words.{connected_words, drew_all}

module _ (bs : List ℕ) (xs : List Float) where
  abbrev set : Settings
  set = settings_in bs

  abbrev p : Patch
  p = patch_in bs xs

  -- points and indices that calls drew for the same bytes and levels
  pub call_chapter : {pw iw : List ℕ} → CallDrew bs xs pw → CallConnected bs xs iw → Chapter our_edges set p (read_points pw) iw
  call_chapter d c =
      let a = drew_all bs xs d in
      rw (a.are, (connected_words bs xs c).are) (chapter set a.top p a.drawn)

  -- ---- 23.2
  module _ (short need have count : ℕ) (other : short ≡ 1 → ⊥) where
    abbrev says : AnswerCode
    says = list_verdict set p short need have count

    of_verdict : AllBelow choices bs 0 → 1 ≡ says.number → DiscardedIn bs xs
    unfolding list_verdict
    of_verdict below h = go (is_top set.top) (discards p) (ltb have need) refl refl h
      where
        go : (a b c : Bool) → is_top set.top ≡ a → discards p ≡ b → 1 ≡ (cond a (cond b (refused 1) (cond c (refused short) (drew count))) (refused 11)).number → DiscardedIn bs xs
        go false b c e f h = absurd (omega arith)
        go true true c e f h = record { known = below; top = top_as set.top e; patch = (discards_exactly p).0 f }
        go true false true e f h = absurd (other (sym h))
        go true false false e f h = absurd (omega arith)

    only : 1 ≡ (known bs bad_top unknown_setting says).number → DiscardedIn bs xs
    only =
        known_cases bs bad_top unknown_setting says (λ (x : AnswerCode). 1 ≡ x.number → DiscardedIn bs xs)
        (λ h e. absurd (omega (arith, e))) (λ k h f e. absurd (omega (arith, e))) (λ h below e. of_verdict below e)

    where_so : DiscardedIn bs xs → (known bs bad_top unknown_setting says).number ≡ 1
    unfolding list_verdict
    where_so d =
        known_cases bs bad_top unknown_setting says (λ (x : AnswerCode). x.number ≡ 1)
        (λ h. absurd (h d.top)) (λ k h f. absurd (not_all bs k f d.known)) (λ h below. rw (is_top_lem set.top d.top, (discards_exactly p).1 d.patch))

    call_discards : {words l l' c' : List ℕ} {r : ℕ} → ListCalled (known bs bad_top unknown_setting says) words l l' c' r → CallDiscards bs xs l l' r
    call_discards d = record {
      exactly = (λ e. only (sym e ∙ d.says.number), λ h. d.says.number ∙ where_so h);
      untouched = λ e. d.list ∙ rw e;
    }

  pub points_call_discards : {v v' c' : List ℕ} {r : ℕ} → PointsCalled bs xs v v' c' r → CallDiscards bs xs v v' r
  points_call_discards {v} d = call_discards 3 (3 * points_of set p) (length v) (points_of set p) (λ e. omega arith) d

  pub indices_call_discards : {i i' c' : List ℕ} {r : ℕ} → IndicesCalled bs xs i i' c' r → CallDiscards bs xs i i' r
  indices_call_discards {i} d = call_discards 4 (indices_of set p) (length i) (indices_of set p) (λ e. omega arith) d
