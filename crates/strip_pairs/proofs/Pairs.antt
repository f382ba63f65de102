-- A strip whose outer line has two segments more: pairs of steps, one step of the outer line at the middle of the inner line,
-- pairs again, and a last step of the outer line. Assumes nothing.
use Prim.Native.Nat.{ℕ, zero, suc, ◌+◌, ◌-◌, ◌*◌, ◌/◌, ◌<◌}
use mathlib.Core.Path.{◌≡◌, refl, ◌∙◌}
use mathlib.Core.Bool.{Bool, true, false}
use mathlib.Core.List.{[], ◌∷◌, ◌++◌, append_assoc}
use native.Mathlib.Omega.{arith}
use lib.ListN.{length}
use Rattle.buffer.specs.Over.{flat}
use Rattle.buffer.proofs.Laws.{flat_length, flat_last}
use Rattle.strip.specs.Triangles.{indices}
use Rattle.strip.specs.Rule.{outer_next}
use Rattle.strip.specs.Strips.{step_triangle, strip_from, strip}
use Rattle.strip_pairs.specs.Pairs.{pair, pair_words}
use Rattle.strip.proofs.Rule.{inner_ended, level_outer, ahead_inner, ahead_outer, two_ahead_inner}
use Rattle.strip.proofs.Strips.{indices_length}

module _ (A B : ℕ → ℕ) (positive : Bool) where
  -- six words per pair
  pub pair_length : (a b : ℕ) → length (indices positive (pair A B a b)) ≡ 6
  pair_length a b = indices_length positive (pair A B a b)

  pub pairs_length : (a b n : ℕ) → length (pair_words A B positive a b n) ≡ 6 * n
  unfolding pair_words
  pairs_length a b n = flat_length (λ i. indices positive (pair A B (a + i) (b + i))) 6 0 n (λ i. pair_length (a + i) (b + i))

  -- no pairs, one more pair, and the last of several
  pairs_none : (a b n : ℕ) → n ≡ 0 → pair_words A B positive a b n ≡ []
  unfolding pair_words flat
  pairs_none a b n e = rw e

  pairs_more : (a b n : ℕ) → pair_words A B positive a b (suc n) ≡ pair_words A B positive a b n ++ indices positive (pair A B (a + n) (b + n))
  unfolding pair_words
  pairs_more a b n =
      let z : 0 + n ≡ n = omega arith in
      rw z at (flat_last (λ i. indices positive (pair A B (a + i) (b + i))) 0 n)

  pairs_last : (a b n : ℕ) → (n ≡ 0 → ⊥) → pair_words A B positive a b n ≡ pair_words A B positive a b (n - 1) ++ indices positive (pair A B (a + (n - 1)) (b + (n - 1)))
  pairs_last a b zero h = absurd (h refl)
  pairs_last a b (suc n) h =
      let e : suc n - 1 ≡ n = omega arith in
      rw e (pairs_more a b n)

  module _ (next : ℕ → ℕ → Bool) where
    -- a pair at the start of several steps
    one_pair : (k a b : ℕ) → next a b ≡ true → next (suc a) b ≡ false
        → indices positive (strip_from A B next (suc (suc k)) a b) ≡ indices positive (pair A B a b) ++ indices positive (strip_from A B next k (suc a) (suc b))
    unfolding indices strip_from
    one_pair k a b u v = rw (u, v)

    -- n pairs from the points a and b on, then k further steps
    pairs : (a b n k steps : ℕ) → steps ≡ 2 * n + k → ((j : ℕ) → j < n → next (a + j) (b + j) ≡ true) → ((j : ℕ) → j < n → next (suc (a + j)) (b + j) ≡ false)
        → indices positive (strip_from A B next steps a b) ≡ pair_words A B positive a b n ++ indices positive (strip_from A B next k (a + n) (b + n))
    pairs a b zero k steps e u v =
        let f : steps ≡ k = omega arith in
        let x : a + 0 ≡ a = omega arith in
        let y : b + 0 ≡ b = omega arith in
        rw (pairs_none a b 0 refl, f, x, y)
    pairs a b (suc n) k steps e u v =
        let x : a + suc n ≡ suc (a + n) = omega arith in
        let y : b + suc n ≡ suc (b + n) = omega arith in
        let before = pairs a b n (suc (suc k)) steps (omega arith) (λ j h. u j (omega arith)) (λ j h. v j (omega arith)) in
        rw (pairs_more a b n, x, y, append_assoc, ← one_pair k (a + n) (b + n) (u n (omega arith)) (v n (omega arith))) before

    -- a step of the outer line at the start of several steps
    one_outer : (k a b : ℕ) → next a b ≡ true
        → indices positive (strip_from A B next (suc k) a b) ≡ indices positive (step_triangle A B true a b ∷ []) ++ indices positive (strip_from A B next k (suc a) b)
    unfolding indices strip_from
    one_outer k a b u = rw u

    last_outer : (a b : ℕ) → next a b ≡ true → indices positive (strip_from A B next 1 a b) ≡ indices positive (step_triangle A B true a b ∷ [])
    unfolding indices strip_from
    last_outer a b u = rw u

  -- the whole strip, if the outer line has two segments more than the inner line
  pub alternates : (p r : ℕ) → p ≡ r + 2
      → indices positive (strip A B p r) ≡ pair_words A B positive 0 0 (r / 2) ++ indices positive (step_triangle A B true (r / 2) (r / 2) ∷ [])
      ++ pair_words A B positive (r / 2 + 1) (r / 2) (r - r / 2) ++ indices positive (step_triangle A B true (r + 1) r ∷ [])
  alternates p r e =
      let next = outer_next (r + 2) r in
      let h = r / 2 in
      let m = r - h in
      let x : 0 + h ≡ h = omega arith in
      let y : suc h ≡ h + 1 = omega arith in
      let z : h + 1 + m ≡ r + 1 = omega arith in
      let w : h + m ≡ r = omega arith in
      let on : (j : ℕ) → h + 1 + j ≡ suc (h + j) = λ j. omega arith in
      let first = pairs next 0 0 h (suc (2 * m + 1)) (r + 2 + r) (omega arith) (λ j k. level_outer r (0 + j)) (λ j k. ahead_inner r (0 + j) (omega arith)) in
      let middle = one_outer next (2 * m + 1) h h (level_outer r h) in
      let second =
      pairs next (h + 1) h m 1 (2 * m + 1) refl (λ j k. rw (on j) (ahead_outer r (h + j) (omega arith))) (λ j k. rw (on j) (two_ahead_inner r (h + j) (omega arith))) in
      rw (e, first, x, middle, y, second, z, w, last_outer next (r + 1) r (inner_ended (r + 2) r (r + 1) (omega arith))) (simp append_assoc)

  -- the same, with the last pair and the last step together
  pub halves : (p r : ℕ) → p ≡ r + 2 → (r ≡ 0 → ⊥)
      → indices positive (strip A B p r) ≡ pair_words A B positive 0 0 (r / 2) ++ indices positive (step_triangle A B true (r / 2) (r / 2) ∷ [])
      ++ pair_words A B positive (r / 2 + 1) (r / 2) (r - r / 2 - 1) ++ (indices positive (pair A B r (r - 1)) ++ indices positive (step_triangle A B true (r + 1) r ∷ []))
  halves p r e some =
      let h = r / 2 in
      let x : h + 1 + (r - h - 1) ≡ r = omega arith in
      let y : h + (r - h - 1) ≡ r - 1 = omega arith in
      alternates p r e ∙ rw (pairs_last (h + 1) h (r - h) (λ z. some (omega arith)), x, y) (simp append_assoc)

  -- an inner line without segments
  pub fan : (p r : ℕ) → p ≡ r + 2 → r ≡ 0 → indices positive (strip A B p r) ≡ indices positive (step_triangle A B true 0 0 ∷ step_triangle A B true 1 0 ∷ [])
  unfolding indices pair_words flat
  fan p r e none = alternates p r e ∙ rw none
