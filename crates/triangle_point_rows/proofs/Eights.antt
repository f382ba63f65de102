-- Points written eight at a time, from points of the outline. Assumes nothing.
use Prim.Native.Nat.{ℕ, zero, suc, ◌+◌, ◌-◌, ◌*◌, ◌≤◌}
use mathlib.Core.Path.{◌≡◌, refl, sym, ap, subst, ◌∙◌}
use mathlib.Core.List.{List, ◌++◌}
use native.Mathlib.Omega.{arith}
use lib.ListN.{length}
use Rattle.buffer.specs.Over.{Wrote, flat}
use Rattle.buffer.proofs.Laws.{flat_length}
use Rattle.shifted_copies.proofs.Shifts.{flat_split, flat_below}
use Rattle.shifted_copies.proofs.Again.{flat_moved, wrote_again}
use Rattle.triangle_point_rows.specs.Rings.{sums}

module _ (base : List ℕ) (from p q r : ℕ) where
  -- three words a point
  pub sums_size : (i n : ℕ) → length (flat (sums base from p q r) i n) ≡ 3 * n
  sums_size i n = flat_length (sums base from p q r) 3 i n (λ j. refl)

  -- from a later point on
  later : (m i : ℕ) → sums base (from + 3 * m) p q r i ≡ sums base from p q r (i + m)
  later m i =
      let e : from + 3 * m + 3 * i ≡ from + 3 * (i + m) = omega arith in
      rw e

  pub sums_later : (m n : ℕ) → flat (sums base (from + 3 * m) p q r) 0 n ≡ flat (sums base from p q r) m n
  sums_later m n =
      let z : 0 + m ≡ m = omega arith in
      flat_below (sums base (from + 3 * m) p q r) (λ i. sums base from p q r (i + m)) 0 n (λ i h. later m i)
      ∙ flat_moved (sums base from p q r) m 0 n ∙ ap (λ (i : ℕ). flat (sums base from p q r) i n) z

  eights_from : (i k : ℕ) → flat (λ j. flat (sums base (from + 24 * j) p q r) 0 8) i k ≡ flat (sums base from p q r) (8 * i) (8 * k)
  unfolding flat
  eights_from i zero = refl
  eights_from i (suc k) =
      let f = sums base from p q r in
      let e : 8 * suc k ≡ 8 + 8 * k = omega arith in
      let s : 8 * i + 8 ≡ 8 * (i + 1) = omega arith in
      let t : from + 24 * i ≡ from + 3 * (8 * i) = omega arith in
      ap (λ (l : List ℕ). l ++ flat (λ j. flat (sums base (from + 24 * j) p q r) 0 8) (i + 1) k) (ap (λ (j : ℕ). flat (sums base j p q r) 0 8) t ∙ sums_later (8 * i) 8)
      ∙ ap (λ (l : List ℕ). flat f (8 * i) 8 ++ l) (eights_from (i + 1) k ∙ ap (λ (j : ℕ). flat f j (8 * k)) (sym s))
      ∙ sym (flat_split f (8 * i) 8 (8 * k)) ∙ ap (flat f (8 * i)) (sym e)

  pub eights : (k : ℕ) → flat (λ j. flat (sums base (from + 24 * j) p q r) 0 8) 0 k ≡ flat (sums base from p q r) 0 (8 * k)
  eights k = eights_from 0 k

  -- the first eight points, then all points from the m-th on, eight at a time
  pub run_wrote : (n k m : ℕ) {xs mid out : List ℕ} {at w w' v : ℕ} → at ≤ length xs → m + 8 * k ≡ n → m ≤ 8 → 8 ≤ n
      → Wrote xs at (flat (sums base from p q r) 0 8) mid w → v ≡ at + 3 * m → Wrote mid v (flat (sums base (from + 3 * m) p q r) 0 (8 * k)) out w'
      → Wrote xs at (flat (sums base from p q r) 0 n) out w'
  run_wrote n k m {xs} {mid} {out} {at} {w} {w'} {v} fits all few many first place rest =
      let f = sums base from p q r in
      let z : 0 + m ≡ m = omega arith in
      let eight : m + (8 - m) ≡ 8 = omega arith in
      let front : flat f 0 8 ≡ flat f 0 m ++ flat f m (8 - m) = ap (flat f 0) (sym eight) ∙ flat_split f 0 m (8 - m) ∙ ap (λ (i : ℕ). flat f 0 m ++ flat f i (8 - m)) z in
      let whole : flat f 0 m ++ flat f m (8 * k) ≡ flat f 0 n = ap (λ (i : ℕ). flat f 0 m ++ flat f i (8 * k)) (sym z) ∙ sym (flat_split f 0 m (8 * k)) ∙ ap (flat f 0) all in
      subst (λ (l : List ℕ). Wrote xs at l out w') whole
      (wrote_again (flat f 0 m) (flat f m (8 - m)) (flat f m (8 * k)) fits (omega (arith, sums_size m (8 - m), sums_size m (8 * k))) (omega (arith, sums_size 0 m))
      (subst (λ (l : List ℕ). Wrote xs at l mid w) front first) (subst (λ (l : List ℕ). Wrote mid v l out w') (sums_later m (8 * k)) rest))
