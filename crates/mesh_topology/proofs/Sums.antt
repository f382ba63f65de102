-- Laws of sums. Assumes nothing.
use Prim.Native.Nat.{ℕ, zero, suc, ◌+◌, ◌*◌, ◌≤◌, ◌<◌}
use mathlib.Core.Path.{◌≡◌, refl}
use native.Mathlib.Omega.{arith}
use native.Mathlib.Decide.{dec_le}
use Rattle.mesh_topology.specs.Sides.{sum}

pub none : (n : ℕ) → (1 ≤ n → ⊥) → n ≡ 0
none zero f = refl
none (suc n) f = absurd (f (omega arith))

-- two or three numbers, at most one of which is 1
pub one_of_two : (a b : ℕ) → a ≤ 1 → b ≤ 1 → (1 ≤ a → 1 ≤ b → ⊥) → a + b ≤ 1
one_of_two a b u v ab = elim (dec_le 1 a) [ yes h ↦ omega (arith, none b (ab h)) | no h ↦ omega arith ]

pub one_of_three : (a b c : ℕ) → a ≤ 1 → b ≤ 1 → c ≤ 1 → (1 ≤ a → 1 ≤ b → ⊥) → (1 ≤ a → 1 ≤ c → ⊥) → (1 ≤ b → 1 ≤ c → ⊥) → a + b + c ≤ 1
one_of_three a b c u v w ab ac bc =
    one_of_two (a + b) c (one_of_two a b u v ab) w
    (λ h k. elim (dec_le 1 a) [ yes l ↦ ac l k | no l ↦ bc (omega arith) k ])

-- a sum that is not 0 has a term that is not 0
pub record Part (w : ℕ → ℕ) (n : ℕ) : Type 0 where
  pub k : ℕ
  pub below : k < n
  pub some : 1 ≤ w k

pub part : (w : ℕ → ℕ) (n : ℕ) → 1 ≤ sum w n → Part w n
unfolding sum
part w zero h = absurd (omega arith)
part w (suc n) h = elim (dec_le 1 (w n)) [
  | yes l ↦ record { k = n; below = omega arith; some = l }
  | no l ↦ let s = part w n (omega arith) in record { k = s.k; below = omega arith; some = s.some }
]

-- a sum is at most 1 if each term is, and no two terms are 1
pub sum_once : (w : ℕ → ℕ) (n : ℕ) → ((k : ℕ) → k < n → w k ≤ 1) → ((j k : ℕ) → j < k → k < n → 1 ≤ w j → 1 ≤ w k → ⊥) → sum w n ≤ 1
unfolding sum
sum_once w zero le apart = omega arith
sum_once w (suc n) le apart =
    one_of_two (sum w n) (w n) (sum_once w n (λ k h. le k (omega arith)) (λ j k h l. apart j k h (omega arith))) (le n (omega arith))
    (λ h k. let s = part w n h in apart s.k n s.below (omega arith) s.some k)

-- the first term on its own
pub sum_first : (w : ℕ → ℕ) (n : ℕ) → sum w (suc n) ≡ w 0 + sum (λ k. w (suc k)) n
unfolding sum
sum_first w zero = omega arith
sum_first w (suc n) = omega (arith, sum_first w n)

-- a constant term
pub sum_constant : (w n : ℕ) → sum (λ _. w) n ≡ n * w
unfolding sum
sum_constant w zero = omega arith
sum_constant w (suc n) = omega (arith, sum_constant w n)

-- an element of part k comes before the end of all n parts
pub sum_within : (w : ℕ → ℕ) (n k i : ℕ) → k < n → i < w k → sum w k + i < sum w n
unfolding sum
sum_within w zero k i h l = absurd (omega arith)
sum_within w (suc n) k i h l = elim (dec_le (suc k) n) [
  | yes m ↦ omega (arith, sum_within w n k i m l)
  | no m ↦ let e : k ≡ n = omega arith in let l' : i < w n = rw e at l in rw e (omega arith)
]
