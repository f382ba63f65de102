-- A call that measures or draws gives each number exactly if it is right. Assumes nothing.
use Prim.Native.Nat.{ℕ, ◌*◌, ◌≤◌, ◌<◌}
use mathlib.Core.Path.{◌≡◌, refl, sym, ap, subst, ◌∙◌}
use mathlib.Core.Bool.{Bool, true, false, cond}
use mathlib.Core.List.{List}
use mathlib.Core.Logic.{◌↔◌}
use native.Mathlib.Omega.{arith}
use borrow.Author.Tests.{lt-ltb, le-ltb, ltb-true, ltb-false}
use lib.Dec.{eqb, ltb}
use lib.Ieee.{Float}
use lib.ListN.{length, get_or}
use Rattle.level.specs.Top.{Top, is_top}
use Rattle.patch.specs.declared.kinds.Patch.{Patch}
use Rattle.patch.specs.declared.settings.Settings.{Settings}
use Rattle.patch.specs.Subdivide.{discards}
use Rattle.level_clamps.specs.Clamps.{clamps_of}
use Rattle.level_clamps.proofs.Numbers.{clamps_in}
use Rattle.std.proofs.Common.{Result, Ok, Err}
use Rattle.measure.specs.declared.cut.NotDrawn.{NotDrawn}
use Rattle.measure.specs.declared.cut.NotDrawn.TheVariants as reason
use Rattle.measure.specs.declared.size.Size.{Size}
use Rattle.tessellate.specs.declared.refusal.DrawRefusal.{DrawRefusal}
use Rattle.tessellate.specs.declared.refusal.DrawRefusal.TheVariants as refusal
use Rattle.measure.specs.Sizes.{size_code, points_of, indices_of}
use Rattle.tessellate.specs.Answers.{list_code, points_code, indices_code, list_verdict, points_verdict, indices_verdict}
use Rattle.level.proofs.Top.{top_as, is_top_lem, no_top, top_no}
use Rattle.measure.proofs.Measured.{measured, measured_told, counts_with, size_in, size_back}
use Rattle.answer_codes.specs.AnswerCode.{AnswerCode}
use Rattle.call_answers.specs.Replies.{unknown_setting, bad_top, one_word, Says}
use Rattle.call_answers.proofs.Replies.{says_as}
use Rattle.call_answers.proofs.ClampBytes.{six_numbers}
use Rattle.call_inputs.specs.Inputs.{patch_in, settings_in, top_in}
use Rattle.call_inputs.specs.Asked.{known}
use Rattle.call_inputs.specs.Exactly.{CalledExactly}
use Rattle.call_inputs.proofs.Exactly.{Readable, called_exactly}
use Rattle.draw_exports.specs.Calls.{MeasureCalled, PointsCalled, IndicesCalled}
use Rattle.draw_exports.specs.Exactly.{Discarded, Drawable, SizeMeans, PointsMeans, IndicesMeans, measure_words, MeasureExactly, PointsExactly, IndicesExactly}

-- ---- one of four answers: by the top level, by whether the patch is discarded, and by the room for `need` words in a list of `have`
abbrev chosen : {A : Type 0} → Bool → Bool → Bool → A → A → A → A → A
chosen top gone short bad none no_room done = cond top (cond gone none (cond short no_room done)) bad

chosen_map : {A B : Type 0} (f : A → B) (t g s : Bool) (a b c d : A) → f (chosen t g s a b c d) ≡ chosen t g s (f a) (f b) (f c) (f d)
chosen_map f false g s a b c d = refl
chosen_map f true true s a b c d = refl
chosen_map f true false true a b c d = refl
chosen_map f true false false a b c d = refl

module _ (set : Settings) (p : Patch) (need have : ℕ) {A : Type 0} (bad none no_room done : A) where
  abbrev choice : A
  choice = chosen (is_top set.top) (discards p) (ltb have need) bad none no_room done

  is_bad : (Top set.top → ⊥) → choice ≡ bad
  is_bad n = rw (top_no set.top n)

  is_none : Discarded set p → choice ≡ none
  is_none d = rw (is_top_lem set.top d.0, d.1)

  is_short : Drawable set p → have < need → choice ≡ no_room
  is_short d h = rw (is_top_lem set.top d.0, d.1, lt-ltb have need h)

  is_done : Drawable set p → need ≤ have → choice ≡ done
  is_done d h = rw (is_top_lem set.top d.0, d.1, le-ltb have need h)

  choice_cases : (P : A → Type 0) → ((Top set.top → ⊥) → P bad) → (Discarded set p → P none) → (Drawable set p → have < need → P no_room)
      → (Drawable set p → need ≤ have → P done) → P choice
  choice_cases P a b c d = go (is_top set.top) (discards p) (ltb have need) refl refl refl
    where
      go : (t g s : Bool) → is_top set.top ≡ t → discards p ≡ g → ltb have need ≡ s → P (chosen t g s bad none no_room done)
      go false g s e f h = a (no_top set.top e)
      go true true s e f h = b (top_as set.top e, f)
      go true false true e f h = c (top_as set.top e, f) (ltb-true have need h)
      go true false false e f h = d (top_as set.top e, f) (ltb-false have need h)

-- if an answer is right, and no other answer is, then each answer is that one exactly if it is right
pub both : {A : Type 0} (Means : A → Type 0) {right : A} → Means right → ((a : A) → Means a → right ≡ a) → (a : A) → right ≡ a ↔ Means a
both Means m back a = (λ e. subst Means e m, back a)

-- a call answers exactly where its operation does: `right` is the operation's answer, and `t` what the call has to say of it
call_exactly : {A : Type 0} (bs : List ℕ) (words : List ℕ → List ℕ) (told : A → AnswerCode) (Means : A → Type 0) (right bad : A) (back : ℕ → List ℕ → A) {t : AnswerCode} {w : List ℕ} {r : ℕ}
    → ((a : A) → right ≡ a ↔ Means a) → told bad ≡ bad_top → ((Top (top_in bs) → ⊥) → Means bad) → Readable words told back → told right ≡ t
    → Says words (known bs bad_top unknown_setting t) w r → CalledExactly words told bs Means w r
call_exactly bs words told Means right bad back exactly number no_top read is says =
    called_exactly bs told Means right bad (record { exactly = exactly; bad_number = number; bad_top_lem = λ n. (exactly bad).1 (no_top n) }) words back read
    (says_as (ap (known bs bad_top unknown_setting) is) says)

-- ---- measuring
abbrev bad_size : Result Size NotDrawn
bad_size = Err reason.BadTop

abbrev no_size : Result Size NotDrawn
no_size = Err reason.Discarded

module _ (set : Settings) (p : Patch) where
  abbrev counts : Result Size NotDrawn
  counts = Ok (counts_with (points_of set p) (indices_of set p) (clamps_of set.spacing set.top p))

  -- measuring needs no room
  is_choice : measured set p ≡ choice set p 0 0 bad_size no_size bad_size counts
  unfolding measured
  is_choice = refl

  size_means : SizeMeans set p (choice set p 0 0 bad_size no_size bad_size counts)
  size_means =
      choice_cases set p 0 0 bad_size no_size bad_size counts (SizeMeans set p) (λ n. n) (λ d. d) (λ d h. absurd (omega arith)) (λ d h. (d, refl, refl, refl))

  means_size : (s : Result Size NotDrawn) → SizeMeans set p s → choice set p 0 0 bad_size no_size bad_size counts ≡ s
  means_size (Err reason.BadTop) n = is_bad set p 0 0 _ _ bad_size counts n
  means_size (Err reason.Discarded) d = is_none set p 0 0 bad_size _ bad_size counts d
  means_size (Ok s) (d, e, f, g) = is_done set p 0 0 bad_size no_size bad_size counts d (omega arith) ∙ rw (← e, ← f, ← g) refl

  size_exactly : (s : Result Size NotDrawn) → measured set p ≡ s ↔ SizeMeans set p s
  size_exactly = rw is_choice (both (SizeMeans set p) size_means means_size)

size_readable : Readable measure_words size_code size_in
size_readable = record { same = same; no_eight = no_eight; place = λ k. refl }
  where
    same : (s : Result Size NotDrawn) → size_in (size_code s).number (measure_words (size_code s).values) ≡ s
    same (Ok s) =
        ap (λ (ks : List ℕ). Ok (counts_with s.points s.indices (clamps_in ks))) (sym (six_numbers s.points s.indices s.clamps)) ∙ size_back (Ok s)
    same (Err reason.Discarded) = refl
    same (Err reason.BadTop) = refl

    no_eight : (s : Result Size NotDrawn) → eqb (size_code s).number 8 ≡ false
    no_eight (Ok s) = refl
    no_eight (Err reason.Discarded) = refl
    no_eight (Err reason.BadTop) = refl

pub measure_call_exactly : (bs : List ℕ) (xs : List Float) {c' k' : List ℕ} {r : ℕ} → MeasureCalled bs xs c' k' r → MeasureExactly bs xs c' k' r
measure_call_exactly bs xs m =
    let set = settings_in bs in
    let p = patch_in bs xs in
    call_exactly bs measure_words size_code (SizeMeans set p) (measured set p) bad_size size_in (size_exactly set p) refl (λ n. n) size_readable (measured_told set p)
    (record { number = m.says.number; counts = rw (m.says.counts, m.clamps) })

-- ---- drawing
-- points and indices have answers of the same forms: `count` of them are drawn into `need` words of a list of `have`, and one refusal is never given
module _ (set : Settings) (p : Patch) (need count have : ℕ) (no_room never : DrawRefusal) where
  abbrev draw_right : Result ℕ DrawRefusal
  draw_right = choice set p need have (Err refusal.BadTop) (Err refusal.Discarded) (Err no_room) (Ok count)

  draw_exactly : ((P : Result ℕ DrawRefusal → Type 0) → P (Err refusal.BadTop) → P (Err refusal.Discarded) → P (Err no_room) → P (Err never) → ((n : ℕ) → P (Ok n))
      → (a : Result ℕ DrawRefusal) → P a) → (Means : Result ℕ DrawRefusal → Type 0)
      → Means (Err refusal.BadTop) ↔ (Top set.top → ⊥) → Means (Err refusal.Discarded) ↔ Discarded set p → Means (Err no_room) ↔ Drawable set p × (have < need)
      → (Means (Err never) → ⊥) → ((n : ℕ) → Means (Ok n) ↔ Drawable set p × (need ≤ have) × (n ≡ count))
      → (a : Result ℕ DrawRefusal) → draw_right ≡ a ↔ Means a
  draw_exactly cases Means is-bad-top is_discarded_lem is-no-room is-never is-drawn =
      both Means
      (choice_cases set p need have _ _ _ _ Means is-bad-top.1 is_discarded_lem.1 (λ d h. is-no-room.1 (d, h)) (λ d h. (is-drawn count).1 (d, h, refl)))
      (cases (λ a. Means a → draw_right ≡ a)
      (λ m. is_bad set p need have _ _ _ _ (is-bad-top.0 m))
      (λ m. is_none set p need have _ _ _ _ (is_discarded_lem.0 m))
      (λ m. let w = is-no-room.0 m in is_short set p need have _ _ _ _ w.0 w.1)
      (λ m. absurd (is-never m))
      (λ n m. let w = (is-drawn n).0 m in is_done set p need have _ _ _ _ w.0 w.1 ∙ ap Ok (sym w.2)))

draw_cases : (P : Result ℕ DrawRefusal → Type 0) → P (Err refusal.BadTop) → P (Err refusal.Discarded) → P (Err refusal.NoRoomForVertices)
    → P (Err refusal.NoRoomForIndices) → ((n : ℕ) → P (Ok n)) → (a : Result ℕ DrawRefusal) → P a
draw_cases P a b c e d (Err refusal.BadTop) = a
draw_cases P a b c e d (Err refusal.Discarded) = b
draw_cases P a b c e d (Err refusal.NoRoomForVertices) = c
draw_cases P a b c e d (Err refusal.NoRoomForIndices) = e
draw_cases P a b c e d (Ok n) = d n

abbrev drawn_in : ℕ → List ℕ → Result ℕ DrawRefusal
drawn_in n c =
    cond (eqb n 0) (Ok (get_or c 0 0))
    (cond (eqb n 1) (Err refusal.Discarded) (cond (eqb n 3) (Err refusal.NoRoomForVertices) (cond (eqb n 4) (Err refusal.NoRoomForIndices) (Err refusal.BadTop))))

drawn_readable : Readable one_word list_code drawn_in
drawn_readable = record {
  same = draw_cases (λ a. drawn_in (list_code a).number (one_word (list_code a).values) ≡ a) refl refl refl refl (λ n. refl);
  no_eight = draw_cases (λ a. eqb (list_code a).number 8 ≡ false) refl refl refl refl (λ n. refl);
  place = λ k. refl;
}

itself : {X : Type 0} → X ↔ X
itself = (λ x. x, λ x. x)

module _ (set : Settings) (p : Patch) (have : ℕ) where
  abbrev points_right : Result ℕ DrawRefusal
  points_right = draw_right set p (3 * points_of set p) (points_of set p) have refusal.NoRoomForVertices refusal.NoRoomForIndices

  points_exactly : (a : Result ℕ DrawRefusal) → points_right ≡ a ↔ PointsMeans set p have a
  points_exactly = draw_exactly set p (3 * points_of set p) (points_of set p) have _ _ draw_cases (PointsMeans set p have) itself itself itself (λ x. x) (λ n. itself)

  abbrev indices_right : Result ℕ DrawRefusal
  indices_right = draw_right set p (indices_of set p) (indices_of set p) have refusal.NoRoomForIndices refusal.NoRoomForVertices

  indices_exactly : (a : Result ℕ DrawRefusal) → indices_right ≡ a ↔ IndicesMeans set p have a
  indices_exactly =
      draw_exactly set p (indices_of set p) (indices_of set p) have _ _ (λ P a b c e d. draw_cases P a b e c d) (IndicesMeans set p have)
      itself itself itself (λ x. x) (λ n. itself)

  points_told : points_code points_right ≡ points_verdict set p have
  unfolding list_verdict
  points_told = chosen_map points_code (is_top set.top) (discards p) (ltb have (3 * points_of set p)) _ _ _ _

  indices_told : indices_code indices_right ≡ indices_verdict set p have
  unfolding list_verdict
  indices_told = chosen_map indices_code (is_top set.top) (discards p) (ltb have (indices_of set p)) _ _ _ _

pub points_call_exactly : (bs : List ℕ) (xs : List Float) {l l' c' : List ℕ} {r : ℕ} → PointsCalled bs xs l l' c' r → PointsExactly bs xs (length l) c' r
points_call_exactly bs xs {l} d =
    let set = settings_in bs in
    let p = patch_in bs xs in
    call_exactly bs one_word points_code (PointsMeans set p (length l)) (points_right set p (length l)) (Err refusal.BadTop) drawn_in
    (points_exactly set p (length l)) refl (λ n. n) drawn_readable (points_told set p (length l)) d.says

pub indices_call_exactly : (bs : List ℕ) (xs : List Float) {l l' c' : List ℕ} {r : ℕ} → IndicesCalled bs xs l l' c' r → IndicesExactly bs xs (length l) c' r
indices_call_exactly bs xs {l} d =
    let set = settings_in bs in
    let p = patch_in bs xs in
    call_exactly bs one_word indices_code (IndicesMeans set p (length l)) (indices_right set p (length l)) (Err refusal.BadTop) drawn_in
    (indices_exactly set p (length l)) refl (λ n. n) drawn_readable (indices_told set p (length l)) d.says
