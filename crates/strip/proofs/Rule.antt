-- The laws of the strip rule; together with those of its order they are all that other files use. They say which line advances at a line's
-- end, so that a walk stops only when both lines end, and which line advances if the outer line has two segments more. Assumes nothing.
use Prim.Native.Nat.{ℕ, suc, ◌+◌, ◌*◌, ◌≤◌, ◌<◌}
use mathlib.Core.Path.{◌≡◌}
use mathlib.Core.Bool.{Bool, true, false}
use native.Mathlib.Omega.{arith}
use native.Mathlib.Decide.{dec_le}
use native.Mathlib.Nat.{mul-le-mul, mul-le-mul_right}
use Rattle.strip.specs.Rule.{outer_next, step_outer, step_inner}
use Rattle.strip.proofs.Ties.{ties}

-- at the end of the outer line the inner line advances
pub outer_ended : (p r b : ℕ) → b < r → outer_next p r p b ≡ false
unfolding outer_next
outer_ended p r b h = omega (arith, ties, mul-le-mul_right p h)

-- at the end of the inner line the outer line advances
pub inner_ended : (p r a : ℕ) → a < p → outer_next p r a r ≡ true
unfolding outer_next
inner_ended p r a h = omega (arith, ties, mul-le-mul_right r h)

-- ---- two segments more on the outer line
-- at equal points the outer line advances
pub level_outer : (r b : ℕ) → outer_next (r + 2) r b b ≡ true
unfolding outer_next
level_outer r b = omega (arith, ties)

-- one point ahead, the outer line waits before the middle, and advances from there on
pub ahead_inner : (r b : ℕ) → 2 * b + 1 < r → outer_next (r + 2) r (suc b) b ≡ false
unfolding outer_next
ahead_inner r b h = omega (arith, ties)

pub ahead_outer : (r b : ℕ) → r ≤ 2 * b + 1 → outer_next (r + 2) r (suc b) b ≡ true
unfolding outer_next
ahead_outer r b h = omega (arith, ties)

-- two points ahead, the outer line waits
pub two_ahead_inner : (r b : ℕ) → b < r → outer_next (r + 2) r (suc (suc b)) b ≡ false
unfolding outer_next
two_ahead_inner r b h = omega (arith, ties)

-- a step adds one to the sum of the points
pub step_sum : (t : Bool) (a b : ℕ) → step_outer t a + step_inner t b ≡ suc (a + b)
step_sum true a b = omega arith
step_sum false a b = omega arith

-- a rule that never leaves the two lines before both end
pub record Rule (next : ℕ → ℕ → Bool) (p r : ℕ) : Type 0 where
  pub outer : (a b : ℕ) → a ≤ p → b ≤ r → a + b < p + r → step_outer (next a b) a ≤ p
  pub inner : (a b : ℕ) → a ≤ p → b ≤ r → a + b < p + r → step_inner (next a b) b ≤ r

outer_at_most : (t : Bool) (a : ℕ) → step_outer t a ≤ suc a
outer_at_most true a = omega arith
outer_at_most false a = omega arith

inner_at_most : (t : Bool) (b : ℕ) → step_inner t b ≤ suc b
inner_at_most true b = omega arith
inner_at_most false b = omega arith

pub rule : (p r : ℕ) → Rule (outer_next p r) p r
rule p r = record {
  outer = λ a b u v w. elim (dec_le (suc a) p) [
    | yes h ↦ omega (arith, outer_at_most (outer_next p r a b) a)
    | no h ↦ let e : a ≡ p = omega arith in rw (e, outer_ended p r b (omega arith)) (omega arith)
  ];
  inner = λ a b u v w. elim (dec_le (suc b) r) [
    | yes h ↦ omega (arith, inner_at_most (outer_next p r a b) b)
    | no h ↦ let e : b ≡ r = omega arith in rw (e, inner_ended p r a (omega arith)) (omega arith)
  ];
}

-- the products in the rule are small
pub product : (x y : ℕ) → x ≤ 129 → y ≤ 64 → x * y ≤ 8256
product x y h k = mul-le-mul h k
