-- When a call on shared lists gives which answer. Assumes nothing.
use Rattle.std.specs.Prelude.{ℕ, ◌+◌, ◌*◌, ◌≤◌, ◌<◌, ◌≡◌, Bool, true, false, List, ◌↔◌, Float, Result, Ok, Err, length}
use Rattle.level.specs.Top.{Top}
use Rattle.patch.specs.declared.kinds.Patch.{Patch}
use Rattle.patch.specs.Subdivide.{discards}
use Rattle.job_fields.specs.Settings.{choices, FirstOver, AllBelow}
use Rattle.measure.specs.Sizes.{points_of, indices_of}
use Rattle.answer_codes.specs.AnswerCode.{AnswerCode}
use Rattle.call_answers.specs.Replies.{unknown_setting, two_words}
use Rattle.call_inputs.specs.Inputs.{top_in, patch_in, settings_in}
use Rattle.answer_codes.specs.Reports.{AnsweredExactly}
use Rattle.share_state.specs.declared.state.Quota.{Quota}
use Rattle.share_state.specs.SharedList.{left}
use Rattle.share_state.specs.Answers.{accepted}
use Rattle.measure.specs.declared.size.DrawnCounts.{DrawnCounts}
use Rattle.share_answers.specs.declared.answer.ShareRefusal.{ShareRefusal}
use Rattle.share_answers.specs.declared.answer.ShareRefusal.TheVariants as drawing
use Rattle.share_answers.specs.Answers.{draw_code, points_held}
use Rattle.share_words.specs.Words.{state_in, quota_in, designer_of}
use Rattle.share_words.specs.Memory.{Memory}
use Rattle.share_exports.specs.Calls.{unknown_designer}

-- ---- starting: the quotas a and b fit into lists of v and i words
abbrev pub Fit : ℕ → ℕ → Quota → Quota → Type 0
Fit v i a b = (a.vertices + b.vertices ≤ v) × (a.indices + b.indices ≤ i)

pub record StartExactly (q : List ℕ) (v i r : ℕ) : Type 0 where
  pub started : (r ≡ 0) ↔ Fit v i (quota_in q 0) (quota_in q 2)
  pub too_large : (r ≡ 12) ↔ (Fit v i (quota_in q 0) (quota_in q 2) → ⊥)

-- ---- clearing, for the designer's number d; w are the words of the state
pub record ClearExactly (d v i : ℕ) (w : List ℕ) (r : ℕ) : Type 0 where
  pub cleared : (r ≡ 0) ↔ ((accepted v i (state_in w) ≡ true) × (d ≤ 1))
  pub bad_state : (r ≡ 14) ↔ (accepted v i (state_in w) ≡ false)
  pub unknown_designer_lem : (r ≡ 15) ↔ ((accepted v i (state_in w) ≡ true) × (1 < d))

-- ---- drawing
-- the answer to drawing: an unknown designer, the place of the first setting byte out of range, or the operation's answer
pub data ShareAnswer : Type 0 where
  no_designer : ShareAnswer
  unknown : ℕ → ShareAnswer
  found : Result DrawnCounts ShareRefusal → ShareAnswer

abbrev pub share_code : ShareAnswer → AnswerCode
share_code no_designer = unknown_designer
share_code (unknown place) = unknown_setting place
share_code (found a) = draw_code a

-- the settings and the designer are known, and the state is good; `ok` says whether the state and the lists are accepted
abbrev pub ShareKnown : List ℕ → ℕ → Bool → Type 0
ShareKnown bs d ok = Top (top_in bs) × (ok ≡ true) × (d ≤ 1) × AllBelow choices bs 0

-- the same, and the patch is not discarded
abbrev pub ShareDrawable : List ℕ → ℕ → Bool → Patch → Type 0
ShareDrawable bs d ok p = ShareKnown bs d ok × (discards p ≡ false)

-- when each answer is right, in the order of finding, for m points and k indices and a part that holds n points and has v and i words left
abbrev pub ShareMeans : List ℕ → ℕ → Bool → Patch → ℕ → ℕ → ℕ → ℕ → ℕ → ShareAnswer → Type 0
ShareMeans bs d ok p n v i m k (found (Err drawing.BadTop)) = Top (top_in bs) → ⊥
ShareMeans bs d ok p n v i m k (found (Err drawing.BadState)) = Top (top_in bs) × (ok ≡ false)
ShareMeans bs d ok p n v i m k no_designer = Top (top_in bs) × (ok ≡ true) × (1 < d)
ShareMeans bs d ok p n v i m k (unknown place) = Top (top_in bs) × (ok ≡ true) × (d ≤ 1) × FirstOver choices bs 0 place
ShareMeans bs d ok p n v i m k (found (Err drawing.Discarded)) = ShareKnown bs d ok × (discards p ≡ true)
ShareMeans bs d ok p n v i m k (found (Err drawing.TooManyPoints)) = ShareDrawable bs d ok p × (65535 < n + m)
ShareMeans bs d ok p n v i m k (found (Err drawing.NoRoomForVertices)) = ShareDrawable bs d ok p × (n + m ≤ 65535) × (v < 3 * m)
ShareMeans bs d ok p n v i m k (found (Err drawing.NoRoomForIndices)) = ShareDrawable bs d ok p × (n + m ≤ 65535) × (3 * m ≤ v) × (i < k)
ShareMeans bs d ok p n v i m k (found (Ok counts)) = ShareDrawable bs d ok p × (n + m ≤ 65535) × (3 * m ≤ v) × (k ≤ i) × (counts.points ≡ m) × (counts.indices ≡ k)

-- each answer is given, by number and words, exactly if it is right: `before` is the memory at entry, c' the counts at exit
abbrev pub DrawExactly : List ℕ → List Float → ℕ → Memory → List ℕ → ℕ → Type 0
DrawExactly bs xs d before c' r =
    let s = state_in before.words in
    AnsweredExactly (λ a. (share_code a).number) (λ a. two_words (share_code a).values)
    (ShareMeans bs d (accepted (length before.vertices) (length before.indices) s) (patch_in bs xs) (points_held (designer_of d) s)
    (left (designer_of d) s.vertices) (left (designer_of d) s.indices) (points_of (settings_in bs) (patch_in bs xs)) (indices_of (settings_in bs) (patch_in bs xs)))
    c' r
