-- A call on shared lists gives each number exactly if it is right. Assumes nothing.
use Prim.Native.Nat.{ℕ, ◌+◌, ◌*◌, ◌≤◌}
use mathlib.Core.Path.{◌≡◌, refl, sym, ap, subst, ◌∙◌}
use mathlib.Core.Bool.{Bool, true, false, cond, ◌&&◌, true≢false}
use mathlib.Core.List.{List}
use mathlib.Core.Logic.{◌↔◌}
use native.Mathlib.Omega.{arith}
use borrow.Author.Tests.{lt-ltb, le-ltb, ltb-true, ltb-false, leb-true, le-leb}
use lib.Dec.{leb, ltb, eqb}
use lib.Ieee.{Float}
use lib.ListN.{length, get_or}
use Rattle.level.specs.Top.{Top, is_top}
use Rattle.patch.specs.declared.kinds.Patch.{Patch}
use Rattle.patch.specs.declared.settings.Settings.{Settings}
use Rattle.patch.specs.Subdivide.{discards}
use Rattle.job_fields.specs.Settings.{choices, first_unknown_setting, AllBelow}
use Rattle.job_fields.proofs.Limits.{first_is, first_none, first_all}
use Rattle.measure.specs.Sizes.{points_of, indices_of}
use Rattle.answer_codes.specs.AnswerCode.{AnswerCode, refused, drew_both, done}
use Rattle.level.proofs.Top.{top_as, is_top_lem, no_top, top_no}
use Rattle.call_answers.specs.Replies.{unknown_setting, bad_top, two_words}
use Rattle.call_inputs.specs.Inputs.{top_in, patch_in, settings_in}
use Rattle.answer_codes.specs.Reports.{Reports}
use Rattle.answer_codes.proofs.Exactly.{answered_exactly}
use Rattle.share_state.specs.declared.state.Quota.{Quota}
use Rattle.share_state.specs.SharedList.{left}
use Rattle.share_state.specs.Answers.{quotas_fit, accepted}
use Rattle.std.proofs.Common.{Ok, Err}
use Rattle.share_answers.specs.declared.answer.ShareRefusal.TheVariants as drawing
use Rattle.share_answers.specs.Answers.{room_verdict, part_verdict, share_verdict, points_held}
use Rattle.share_words.specs.Words.{state_in, quota_in, designer_of}
use Rattle.share_words.specs.Memory.{Memory}
use Rattle.share_exports.specs.Calls.{unknown_designer, asked, DrawCalled, StartCalled, clear_says, ClearCalled}
use Rattle.share_exports.specs.Exactly.{Fit, StartExactly, ClearExactly, ShareAnswer, no_designer, unknown, found, share_code, ShareMeans, DrawExactly}

-- ---- starting
fit_is : (v i : ℕ) (a b : Quota) → quotas_fit v i a b ≡ true → Fit v i a b
unfolding quotas_fit
fit_is v i a b = go (leb (a.vertices + b.vertices) v) (leb (a.indices + b.indices) i) refl refl
  where
    go : (x y : Bool) → leb (a.vertices + b.vertices) v ≡ x → leb (a.indices + b.indices) i ≡ y → (x && y) ≡ true → Fit v i a b
    go true true e f h = (leb-true _ _ e, leb-true _ _ f)
    go true false e f h = absurd (true≢false (sym h))
    go false y e f h = absurd (true≢false (sym h))

is_fit : (v i : ℕ) (a b : Quota) → Fit v i a b → quotas_fit v i a b ≡ true
unfolding quotas_fit
is_fit v i a b f = rw (le-leb (a.vertices + b.vertices) v f.0, le-leb (a.indices + b.indices) i f.1)

start_by : (v i : ℕ) (a b : Quota) {r : ℕ} (x : Bool) → quotas_fit v i a b ≡ x → r ≡ (cond x done (refused 12)).number
    → ((r ≡ 0) ↔ Fit v i a b) × ((r ≡ 12) ↔ (Fit v i a b → ⊥))
start_by v i a b true e h = ((λ z. fit_is v i a b e, λ f. h), (λ z. absurd (omega (arith, z, h)), λ n. absurd (n (fit_is v i a b e))))
start_by v i a b false e h =
    let no : Fit v i a b → ⊥ = λ f. true≢false (sym (is_fit v i a b f) ∙ e) in
    ((λ z. absurd (omega (arith, z, h)), λ f. absurd (no f)), (λ z. no, λ n. h))

pub start_call_exactly : (q : List ℕ) (v i : ℕ) {w w' : List ℕ} {r : ℕ} → StartCalled q v i w w' r → StartExactly q v i r
start_call_exactly q v i s =
    let t = start_by v i (quota_in q 0) (quota_in q 2) (quotas_fit v i (quota_in q 0) (quota_in q 2)) refl s.number in
    record { started = t.0; too_large = t.1 }

-- ---- clearing
pub clear_call_exactly : (d v i : ℕ) (w : List ℕ) {w' : List ℕ} {r : ℕ} → ClearCalled d v i w w' r → ClearExactly d v i w r
unfolding clear_says
clear_call_exactly d v i w {r = r} s = go (accepted v i (state_in w)) (ltb 1 d) refl refl s.number
  where
    go : (x y : Bool) → accepted v i (state_in w) ≡ x → ltb 1 d ≡ y → r ≡ (cond x (cond y unknown_designer done) (refused 14)).number → ClearExactly d v i w r
    go false y e f h = record {
      cleared = (λ z. absurd (omega (arith, z, h)), λ m. absurd (true≢false (sym m.0 ∙ e)));
      bad_state = (λ z. e, λ m. h);
      unknown_designer_lem = (λ z. absurd (omega (arith, z, h)), λ m. absurd (true≢false (sym m.0 ∙ e)));
    }
    go true true e f h = record {
      cleared = (λ z. absurd (omega (arith, z, h)), λ m. absurd (omega (arith, m.1, ltb-true 1 d f)));
      bad_state = (λ z. absurd (omega (arith, z, h)), λ m. absurd (true≢false (sym e ∙ m)));
      unknown_designer_lem = (λ z. (e, ltb-true 1 d f), λ m. h);
    }
    go true false e f h = record {
      cleared = (λ z. (e, ltb-false 1 d f), λ m. h);
      bad_state = (λ z. absurd (omega (arith, z, h)), λ m. absurd (true≢false (sym e ∙ m)));
      unknown_designer_lem = (λ z. absurd (omega (arith, z, h)), λ m. absurd (omega (arith, m.1, ltb-false 1 d f)));
    }

-- ---- drawing
module _ (bs : List ℕ) (d : ℕ) (ok : Bool) (p : Patch) (n v i : ℕ) where
  abbrev set : Settings
  set = settings_in bs

  abbrev m : ℕ
  m = points_of set p

  abbrev k : ℕ
  k = indices_of set p

  abbrev place : ℕ
  place = first_unknown_setting bs 0

  abbrev Right : ShareAnswer → Type 0
  Right x = ShareMeans bs d ok p n v i m k x

  -- the answer, by what each test found
  abbrev named : Bool → Bool → Bool → Bool → Bool → Bool → Bool → Bool → ShareAnswer
  named t o e u g a b c =
      cond t (cond o (cond e no_designer (cond u (unknown place) (cond g (found (Err drawing.Discarded)) (cond a (found (Err drawing.TooManyPoints))
      (cond b (found (Err drawing.NoRoomForVertices)) (cond c (found (Err drawing.NoRoomForIndices)) (found (Ok (record { points = m; indices = k })))))))))
      (found (Err drawing.BadState))) (found (Err drawing.BadTop))

  abbrev right : ShareAnswer
  right = named (is_top (top_in bs)) ok (ltb 1 d) (ltb place 5) (discards p) (ltb 65535 (n + m)) (ltb v (3 * m)) (ltb i k)

  right_told : asked bs d ok (share_verdict set p ok n v i) ≡ share_code right
  unfolding asked share_verdict part_verdict room_verdict
  right_told = go (is_top (top_in bs)) ok (ltb 1 d) (ltb place 5) (discards p) (ltb 65535 (n + m)) (ltb v (3 * m)) (ltb i k)
    where
      go : (t o e u g a b c : Bool)
          → cond t (cond o (cond e unknown_designer (cond u (unknown_setting place)
          (cond t (cond o (cond g (refused 1) (cond a (refused 13) (cond b (refused 3) (cond c (refused 4) (drew_both m k))))) (refused 14)) (refused 11)))) (refused 14)) bad_top
          ≡ share_code (named t o e u g a b c)
      go false o e u g a b c = refl
      go true false e u g a b c = refl
      go true true true u g a b c = refl
      go true true false true g a b c = refl
      go true true false false true a b c = refl
      go true true false false false true b c = refl
      go true true false false false false true c = refl
      go true true false false false false false true = refl
      go true true false false false false false false = refl

  right_means : Right right
  right_means = go (is_top (top_in bs)) ok (ltb 1 d) (ltb place 5) (discards p) (ltb 65535 (n + m)) (ltb v (3 * m)) (ltb i k) refl refl refl refl refl refl refl refl
    where
      known : is_top (top_in bs) ≡ true → ok ≡ true → ltb 1 d ≡ false → ltb place 5 ≡ false → Top (top_in bs) × (ok ≡ true) × (d ≤ 1) × AllBelow choices bs 0
      known q1 q2 q3 q4 = (top_as (top_in bs) q1, q2, ltb-false 1 d q3, (first_none choices bs 0).0 (ltb-false place 5 q4))

      go : (t o e u g a b c : Bool) → is_top (top_in bs) ≡ t → ok ≡ o → ltb 1 d ≡ e → ltb place 5 ≡ u → discards p ≡ g → ltb 65535 (n + m) ≡ a → ltb v (3 * m) ≡ b → ltb i k ≡ c
          → Right (named t o e u g a b c)
      go false o e u g a b c q1 q2 q3 q4 q5 q6 q7 q8 = no_top (top_in bs) q1
      go true false e u g a b c q1 q2 q3 q4 q5 q6 q7 q8 = (top_as (top_in bs) q1, q2)
      go true true true u g a b c q1 q2 q3 q4 q5 q6 q7 q8 = (top_as (top_in bs) q1, q2, ltb-true 1 d q3)
      go true true false true g a b c q1 q2 q3 q4 q5 q6 q7 q8 =
          (top_as (top_in bs) q1, q2, ltb-false 1 d q3, (first_is choices bs 0 place).0 (refl, ltb-true place 5 q4))
      go true true false false true a b c q1 q2 q3 q4 q5 q6 q7 q8 = (known q1 q2 q3 q4, q5)
      go true true false false false true b c q1 q2 q3 q4 q5 q6 q7 q8 = ((known q1 q2 q3 q4, q5), ltb-true 65535 (n + m) q6)
      go true true false false false false true c q1 q2 q3 q4 q5 q6 q7 q8 = ((known q1 q2 q3 q4, q5), ltb-false 65535 (n + m) q6, ltb-true v (3 * m) q7)
      go true true false false false false false true q1 q2 q3 q4 q5 q6 q7 q8 =
          ((known q1 q2 q3 q4, q5), ltb-false 65535 (n + m) q6, ltb-false v (3 * m) q7, ltb-true i k q8)
      go true true false false false false false false q1 q2 q3 q4 q5 q6 q7 q8 =
          ((known q1 q2 q3 q4, q5), ltb-false 65535 (n + m) q6, ltb-false v (3 * m) q7, ltb-false i k q8, refl, refl)

  means_right : (x : ShareAnswer) → Right x → right ≡ x
  means_right (found (Err drawing.BadTop)) h = rw (top_no (top_in bs) h)
  means_right (found (Err drawing.BadState)) (t, o) = rw (is_top_lem (top_in bs) t, o)
  means_right no_designer (t, o, e) = rw (is_top_lem (top_in bs) t, o, lt-ltb 1 d e)
  means_right (unknown j) (t, o, e, f) = let w = (first_is choices bs 0 j).1 f in rw (is_top_lem (top_in bs) t, o, le-ltb 1 d e, w.0, lt-ltb j 5 w.1)
  means_right (found (Err drawing.Discarded)) ((t, o, e, f), g) = rw (is_top_lem (top_in bs) t, o, le-ltb 1 d e, first_all choices bs 0 f, g)
  means_right (found (Err drawing.TooManyPoints)) (((t, o, e, f), g), a) = rw (is_top_lem (top_in bs) t, o, le-ltb 1 d e, first_all choices bs 0 f, g, lt-ltb 65535 (n + m) a)
  means_right (found (Err drawing.NoRoomForVertices)) (((t, o, e, f), g), a, b) =
      rw (is_top_lem (top_in bs) t, o, le-ltb 1 d e, first_all choices bs 0 f, g, le-ltb 65535 (n + m) a, lt-ltb v (3 * m) b)
  means_right (found (Err drawing.NoRoomForIndices)) (((t, o, e, f), g), a, b, c) =
      rw (is_top_lem (top_in bs) t, o, le-ltb 1 d e, first_all choices bs 0 f, g, le-ltb 65535 (n + m) a, le-ltb v (3 * m) b, lt-ltb i k c)
  means_right (found (Ok counts)) (((t, o, e, f), g), a, b, c, s, r) =
      rw (is_top_lem (top_in bs) t, o, le-ltb 1 d e, first_all choices bs 0 f, g, le-ltb 65535 (n + m) a, le-ltb v (3 * m) b, le-ltb i k c, ← s, ← r)

abbrev number_of : ShareAnswer → ℕ
number_of a = (share_code a).number

abbrev words_of : ShareAnswer → List ℕ
words_of a = two_words (share_code a).values

abbrev answer_in : ℕ → List ℕ → ShareAnswer
answer_in n c =
    cond (eqb n 0) (found (Ok (record { points = get_or c 0 0; indices = get_or c 1 0 })))
    (cond (eqb n 1) (found (Err drawing.Discarded))
    (cond (eqb n 3) (found (Err drawing.NoRoomForVertices))
    (cond (eqb n 4) (found (Err drawing.NoRoomForIndices))
    (cond (eqb n 8) (unknown (get_or c 0 0))
    (cond (eqb n 11) (found (Err drawing.BadTop))
    (cond (eqb n 13) (found (Err drawing.TooManyPoints)) (cond (eqb n 14) (found (Err drawing.BadState)) no_designer)))))))

same_answer : (a : ShareAnswer) → answer_in (number_of a) (words_of a) ≡ a
same_answer no_designer = refl
same_answer (unknown at) = refl
same_answer (found (Ok counts)) = refl
same_answer (found (Err drawing.Discarded)) = refl
same_answer (found (Err drawing.NoRoomForVertices)) = refl
same_answer (found (Err drawing.NoRoomForIndices)) = refl
same_answer (found (Err drawing.BadTop)) = refl
same_answer (found (Err drawing.TooManyPoints)) = refl
same_answer (found (Err drawing.BadState)) = refl

pub draw_call_exactly : (bs : List ℕ) (xs : List Float) (d : ℕ) (before : Memory) {after : Memory} {c' : List ℕ} {r : ℕ} → DrawCalled bs xs d before after c' r
    → DrawExactly bs xs d before c' r
draw_call_exactly bs xs d before {c' = c'} {r = r} h =
    let p = patch_in bs xs in
    let s = state_in before.words in
    let ok = accepted (length before.vertices) (length before.indices) s in
    let n = points_held (designer_of d) s in
    let x = left (designer_of d) s.vertices in
    let y = left (designer_of d) s.indices in
    let a = right bs d ok p n x y in
    let q = right_told bs d ok p n x y in
    let t : Reports number_of words_of a c' r =
    record { number = h.says.number ∙ ap (λ (e : AnswerCode). e.number) q; words = h.says.counts ∙ ap (λ (e : AnswerCode). two_words e.values) q } in
    answered_exactly answer_in (same_answer a) t same_answer (λ b. (λ f. subst (Right bs d ok p n x y) f (right_means bs d ok p n x y), means_right bs d ok p n x y b))
