-- The carried quotient is the quotient in the rule for positions. Assumes nothing.
use Prim.Native.Nat.{ℕ, ◌*◌, ◌/◌, ◌≤◌, min}
use mathlib.Core.Path.{◌≡◌}
use native.Mathlib.Nat.{div-eq_of_lt-le, add-mul, mul-le-mul_left}
use native.Mathlib.Omega.{arith}
use Rattle.edge.specs.declared.carry.Carry.{Carry}
use Rattle.edge.specs.Carries.{Divides}
use Rattle.edge.specs.Positions.{reach}

module _ (L d : ℕ) (c : Carry) (h : Divides (2147483648 * d) L c) where
  -- the quotient is how far d half segments reach
  pub carries_reach : min c.quotient 32768 ≡ reach L d
  carries_reach =
      let q : 2147483648 * d / L ≡ c.quotient = div-eq_of_lt-le L (omega arith) (omega (arith, add-mul c.quotient 1 L)) in
      rw q

  -- the quotient stays small
  pub carries_small : 65536 ≤ L → d ≤ 66 → c.quotient ≤ 2162688
  carries_small l m = omega (arith, mul-le-mul_left c.quotient l)
