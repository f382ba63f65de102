-- Numbers rounded down, and how far apart two of them lie.
-- Assumes nothing.
use Prim.Native.Nat.{ℕ, ◌+◌, ◌*◌, ◌/◌, ◌≤◌, ◌<◌}
use native.Mathlib.Nat.{div-mul-le_self, lt-div-mul-add, lt_of_mul-lt-mul_right, mul-le-mul_right}
use native.Mathlib.Omega.{arith}
use Rattle.edge.proofs.Reach.{Short}

-- r is 2147483648 d / L rounded down
pub record Floor (L d r : ℕ) : Type 0 where
  pub from : r * L ≤ 2147483648 * d
  pub to : 2147483648 * d < r * L + L

pub floor : (L d : ℕ) → 0 < L → Floor L d (2147483648 * d / L)
floor L d p = record { from = div-mul-le_self (2147483648 * d) L; to = lt-div-mul-add p }

-- a reach that only rounding cuts off
pub of_short : {L d r : ℕ} → Short L d r → Floor L d r
of_short s = record { from = s.from; to = s.to }

-- two half segments more: the whole length rounded down, or one more
module _ (L d a b f : ℕ) (x : Floor L d a) (y : Floor L (d + 2) b) (z : Floor L 2 f) where
  pub more_least : a + f ≤ b
  more_least =
      let h : (a + f) * L < (b + 1) * L = omega (arith, x.from, y.to, z.from) in
      omega (arith, lt_of_mul-lt-mul_right L h)

  pub more_most : b ≤ a + f + 1
  more_most =
      let h : b * L < (a + f + 2) * L = omega (arith, x.to, y.from, z.to) in
      omega (arith, lt_of_mul-lt-mul_right L h)

-- twice one half segment: the whole length rounded down, or one less
module _ (L a f : ℕ) (x : Floor L 1 a) (z : Floor L 2 f) where
  pub twice_most : 2 * a ≤ f
  twice_most =
      let h : (2 * a) * L < (f + 1) * L = omega (arith, x.from, z.to) in
      omega (arith, lt_of_mul-lt-mul_right L h)

  pub twice_least : f ≤ 2 * a + 1
  twice_least =
      let h : f * L < (2 * a + 2) * L = omega (arith, x.to, z.from) in
      omega (arith, lt_of_mul-lt-mul_right L h)

-- the greater the level, the nearer to the middle
pub floor_falls : (L L' d a a' : ℕ) → L ≤ L' → Floor L d a → Floor L' d a' → a' ≤ a
floor_falls L L' d a a' h x y =
    let k : a' * L < (a + 1) * L = omega (arith, mul-le-mul_right a' h, y.from, x.to) in
    omega (arith, lt_of_mul-lt-mul_right L k)
