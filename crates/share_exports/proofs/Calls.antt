-- The contract of a call, answer by answer. Assumes nothing.
use Prim.Native.Nat.{ℕ, zero, suc, ◌≤◌, ◌<◌}
use mathlib.Core.Path.{◌≡◌, refl, ap, ◌∙◌}
use mathlib.Core.Bool.{Bool, true, false, cond}
use mathlib.Core.List.{List, [], ◌∷◌}
use native.Mathlib.Omega.{arith}
use borrow.Author.Tests.{lt-ltb, le-ltb}
use lib.Dec.{ltb}
use lib.Ieee.{Float}
use lib.ListN.{length}
use Rattle.std.proofs.Common.{Err}
use Rattle.level.specs.Top.{is_top}
use Rattle.patch.specs.declared.kinds.Patch.{Patch}
use Rattle.patch.specs.declared.settings.Settings.{Settings}
use Rattle.job_fields.specs.Settings.{first_unknown_setting}
use Rattle.answer_codes.specs.AnswerCode.{AnswerCode, refused, done}
use Rattle.call_answers.specs.declared.reply.Reply.{Reply}
use Rattle.call_answers.specs.Replies.{unknown_setting, bad_top}
use Rattle.call_answers.proofs.Replies.{said_two, says_as}
use Rattle.call_inputs.specs.Inputs.{top_in, patch_in, settings_in}
use Rattle.share_state.specs.declared.state.Designer.{Designer}
use Rattle.share_state.specs.declared.state.State.{State}
use Rattle.share_state.specs.declared.answer.ClearResult.{ClearResult}
use Rattle.share_state.specs.Answers.{clear_code, accepted, clear_verdict}
use Rattle.share_answers.specs.Answers.{draw_verdict}
use Rattle.share_state.specs.Operations.{unless_refused, cleared_state, DidClear}
use Rattle.share_words.specs.Words.{state_in, state_words, designer_of}
use Rattle.share_words.specs.Memory.{Memory}
use Rattle.share_exports.specs.Calls.{unknown_designer, asked, IsAdmitted, ShareCalled, DrawAsked, DrawCalled, clear_says, ShareCleared, ClearCalled}

-- ---- refusals that the patch does not matter for
module _ (bs : List ℕ) (d : ℕ) (ok : Bool) (t : AnswerCode) where
  abbrev place : ℕ
  place = first_unknown_setting bs 0

  abbrev chosen : Bool → Bool → Bool → Bool → AnswerCode → AnswerCode
  chosen a b c e x = cond a (cond b (cond c unknown_designer (cond e (unknown_setting place) x)) (refused 14)) bad_top

  -- no refusal: the answer is the operation's
  pub asked_none : (asked bs d ok done).number ≡ 0 → asked bs d ok t ≡ t
  unfolding asked
  asked_none = go (is_top (top_in bs)) ok (ltb 1 d) (ltb place 5)
    where
      go : (a b c e : Bool) → (chosen a b c e done).number ≡ 0 → chosen a b c e t ≡ t
      go false b c e h = absurd (omega arith)
      go true false c e h = absurd (omega arith)
      go true true true e h = absurd (omega arith)
      go true true false true h = absurd (omega arith)
      go true true false false h = refl

  -- a refusal
  pub asked_some : (n : ℕ) → (asked bs d ok done).number ≡ suc n → asked bs d ok t ≡ asked bs d ok done
  unfolding asked
  asked_some n = go (is_top (top_in bs)) ok (ltb 1 d) (ltb place 5)
    where
      go : (a b c e : Bool) → (chosen a b c e done).number ≡ suc n → chosen a b c e t ≡ chosen a b c e done
      go false b c e h = refl
      go true false c e h = refl
      go true true true e h = refl
      go true true false true h = refl
      go true true false false h = absurd (omega arith)

-- ---- found one after the other
module _ (bs : List ℕ) (d : ℕ) (ok : Bool) where
  pub found_top : is_top (top_in bs) ≡ false → asked bs d ok done ≡ bad_top
  unfolding asked
  found_top e = rw e

  module _ (top : is_top (top_in bs) ≡ true) where
    pub found_state : ok ≡ false → asked bs d ok done ≡ refused 14
    unfolding asked
    found_state e = rw (top, e)

    module _ (state : ok ≡ true) where
      pub found_designer : 1 < d → asked bs d ok done ≡ unknown_designer
      unfolding asked
      found_designer h = rw (top, state, lt-ltb 1 d h)

      module _ (designer : d ≤ 1) {k : ℕ} (first : k ≡ first_unknown_setting bs 0) where
        pub found_setting : k < 5 → asked bs d ok done ≡ unknown_setting k
        unfolding asked
        found_setting h = rw (top, state, le-ltb 1 d designer, ← first, lt-ltb k 5 h)

        pub found_none : 5 ≤ k → asked bs d ok done ≡ done
        unfolding asked
        found_none h = rw (top, state, le-ltb 1 d designer, ← first, le-ltb k 5 h)

-- ---- drawing
-- the same for equal designers, states, settings and patches
called_as : (bs : List ℕ) (d : ℕ) {e e' : Designer} {s s' : State} {set set' : Settings} {p p' : Patch} {before after : Memory} {c' : List ℕ} {r : ℕ}
    → e ≡ e' → s ≡ s' → set ≡ set' → p ≡ p' → DrawAsked bs d e s set p before after c' r → DrawAsked bs d e' s' set' p' before after c' r
called_as bs d a b c f h = rw (← a, ← b, ← c, ← f) h

-- whether the state is accepted with the lists in memory
abbrev accepted_in : Memory → State → Bool
accepted_in m s = accepted (length m.vertices) (length m.indices) s

module _ (bs : List ℕ) (xs : List Float) (d : ℕ) (m : Memory) {s : State} (state : s ≡ state_in m.words) {c' : List ℕ} {r : ℕ} where
  -- a refusal leaves everything as it was
  pub draw_refused : {reply : Reply} → IsAdmitted bs d (accepted_in m s) (Err reply) → (r ≡ reply.number) × (c' ≡ reply.first ∷ reply.second ∷ []) → DrawCalled bs xs d m m c' r
  draw_refused {reply} (h, is) said = called_as bs d refl state refl refl (go (asked bs d (accepted_in m s) done).number refl)
    where
      go : (n : ℕ) → (asked bs d (accepted_in m s) done).number ≡ n → DrawAsked bs d (designer_of d) s (settings_in bs) (patch_in bs xs) m m c' r
      go zero e = let z : reply.number ≡ 0 = is.number ∙ e in absurd (omega arith)
      go (suc n) e =
          let told = said_two is said in
          let z : r ≡ suc n = told.number ∙ e in
          record { says = says_as (asked_some bs d (accepted_in m s) _ n e) told; state = rw z; vertices = rw z; indices = rw z }

  -- a designer and settings that are known
  pub draw_known : asked bs d (accepted_in m s) done ≡ done → {e : Designer} {set : Settings} {p : Patch} → e ≡ designer_of d → set ≡ settings_in bs → p ≡ patch_in bs xs → {after : Memory}
      → ShareCalled (draw_verdict e s set p (length m.vertices) (length m.indices)) e s set p m after c' r → DrawCalled bs xs d m after c' r
  draw_known admitted ed es ep h =
      called_as bs d ed state es ep
      (record {
        says = says_as (asked_none bs d (accepted_in m s) _ (ap (λ (t : AnswerCode). t.number) admitted)) h.says;
        state = h.state;
        vertices = h.vertices;
        indices = h.indices;
      })

-- ---- clearing
cleared_as : {d v i : ℕ} {e e' : Designer} {s s' : State} {w w' : List ℕ} {r : ℕ} → e ≡ e' → s ≡ s' → ShareCleared d v i e s w w' r → ShareCleared d v i e' s' w w' r
cleared_as a b h = rw (← a, ← b) h

module _ (d v i : ℕ) (w : List ℕ) {s : State} (state : s ≡ state_in w) where
  pub clear_bad : accepted v i s ≡ false → ClearCalled d v i w w 14
  unfolding clear_says
  clear_bad e = cleared_as refl state (record { number = rw e; state = refl })

  module _ (ok : accepted v i s ≡ true) where
    pub clear_unknown : 1 < d → ClearCalled d v i w w 15
    unfolding clear_says
    clear_unknown h = cleared_as refl state (record { number = rw (ok, lt-ltb 1 d h); state = refl })

    pub clear_done : d ≤ 1 → {e : Designer} → e ≡ designer_of d → {r : ClearResult} → DidClear e s v i r → {w' : List ℕ} → w' ≡ state_words r.state → ClearCalled d v i w w' 0
    unfolding clear_says clear_verdict
    clear_done h {e} ed {r} c k =
        let told : clear_code r.answer ≡ done = c.answer ∙ rw ok in
        cleared_as ed state
        (record {
          number = rw (ok, le-ltb 1 d h);
          state = k ∙ ap state_words (c.state ∙ ap (λ (t : AnswerCode). unless_refused t.number (cleared_state e s) s) told);
        })
