-- The order of the steps of a strip's two lines under the rule, and that order from the other end. Assumes nothing.
use Prim.Native.Nat.{ℕ, suc, ◌+◌, ◌*◌, ◌≤◌, ◌<◌}
use mathlib.Core.Path.{◌≡◌, ap}
use mathlib.Core.Bool.{true, false}
use native.Mathlib.Omega.{arith}
use native.Mathlib.Decide.{ℕ_discrete}
use native.Mathlib.Nat.{eq_of_mul-eq-mul_right, mul-le-mul_right}
use Rattle.strip.specs.Rule.{outer_next}
use Rattle.strip.proofs.Ties.{ties}

-- ---- one order of all steps
-- if an outer step comes before an inner step, so do earlier outer steps before later inner steps
pub outer_sooner : (p r i a j b : ℕ) → i ≤ a → j ≤ b → outer_next p r a j ≡ true → outer_next p r i b ≡ true
unfolding outer_next
outer_sooner p r i a j b h k e = omega (arith, ties, mul-le-mul_right r h, mul-le-mul_right p k)

-- if an outer step comes after an inner step, so do later outer steps after earlier inner steps
pub inner_sooner : (p r i a j b : ℕ) → i ≤ a → j ≤ b → outer_next p r i b ≡ false → outer_next p r a j ≡ false
unfolding outer_next
inner_sooner p r i a j b h k e = omega (arith, ties, mul-le-mul_right r h, mul-le-mul_right p k)

-- ---- from the other end, where the steps are counted backwards
-- if outer step i comes after inner step j, it comes before it from the other end; so do i', there not after i, and j', there not before j
pub mirror_outer : (p r i i' j j' : ℕ) → i + i' < p → r ≤ suc (j + j') → outer_next p r i j ≡ false → outer_next p r i' j' ≡ true
unfolding outer_next
mirror_outer p r i i' j j' h k e = omega (arith, ties, mul-le-mul_right r h, mul-le-mul_right p k)

-- if the middle step of an odd outer line ties with an inner step, that is the middle step of an odd inner line
middle_tie : (p r i j : ℕ) → 2 * i + 1 ≡ p → (2 * i + 1) * r ≡ (2 * j + 1) * p → 2 * j + 1 ≡ r
middle_tie p r i j o m = eq_of_mul-eq-mul_right p (omega arith) (2 * j + 1) r (omega (arith, ap (λ (x : ℕ). x * r) o))

-- if an outer step comes before an inner step, it comes after it from the other end, except these two middle steps, which have
-- the same order from both ends
pub mirror_inner : (p r i i' j j' : ℕ) → (2 * i + 1 ≡ p → 2 * j + 1 ≡ r → ⊥) → p ≤ suc (i + i') → j + j' < r → outer_next p r i j ≡ true → outer_next p r i' j' ≡ false
unfolding outer_next
mirror_inner p r i i' j j' n h k e = elim (ℕ_discrete ((2 * i + 1) * r) ((2 * j + 1) * p)) [
  | yes m ↦ let q : 2 * i + 1 ≡ p → ⊥ = λ o. n o (middle_tie p r i j o m) in omega (arith, ties, mul-le-mul_right r h, mul-le-mul_right p k)
  | no m ↦ omega (arith, ties, mul-le-mul_right r h, mul-le-mul_right p k)
]

-- ---- the middle steps of two odd lines
-- the outer line's middle step comes first
pub middle_outer : (a b : ℕ) → outer_next (2 * a + 1) (2 * b + 1) a b ≡ true
unfolding outer_next
middle_outer a b = omega (arith, ties)

-- then the inner line's
pub middle_inner : (a b : ℕ) → outer_next (2 * a + 1) (2 * b + 1) (suc a) b ≡ false
unfolding outer_next
middle_inner a b = omega (arith, ties)

-- the inner line's steps before its middle come before both
pub before_middle : (a b j : ℕ) → j < b → outer_next (2 * a + 1) (2 * b + 1) a j ≡ false
unfolding outer_next
before_middle a b j h = omega (arith, ties, mul-le-mul_right (2 * a + 1) h)
