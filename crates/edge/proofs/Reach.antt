-- How far d half segments reach from the middle, and the position of a point by its distance from there. Assumes nothing.
use mathlib.Core.Path.{◌≡◌}
use Prim.Native.Nat.{ℕ, zero, suc, ◌+◌, ◌-◌, ◌*◌, ◌/◌, ◌≤◌, ◌<◌}
use native.Mathlib.Nat.{le-div_iff_mul-le, div-lt_iff_lt-mul, lt-div-mul-add, zero-div, div-mul-le_self, add-mul}
use native.Mathlib.Omega.{arith}
use borrow.Author.Tests.{le-leb, lt-leb}
use Rattle.edge.specs.Positions.{reach, position}
use Rattle.level.specs.Segments.{Valid}

-- ---- how far
pub reach_none : (L : ℕ) → reach L 0 ≡ 0
reach_none L = rw (zero-div L)

pub reach_most : (L d : ℕ) → reach L d ≤ 32768
reach_most L d = omega arith

reach_least : (L d x : ℕ) → 0 < L → x ≤ 32768 → x * L ≤ 2147483648 * d → x ≤ reach L d
reach_least L d x p h k = omega (arith, (le-div_iff_mul-le {k = L} {x = x} {y = 2147483648 * d} p).1 k)

-- a reach r that only rounding cuts off
pub record Short (L d r : ℕ) : Type 0 where
  pub inside : r < 32768
  pub from : r * L ≤ 2147483648 * d
  pub to : 2147483648 * d < r * L + L

module _ (n L : ℕ) (v : Valid n L) where
  -- n half segments reach the end
  pub reach_all : reach L n ≡ 32768
  reach_all = omega (arith, reach_most L n, reach_least L n 32768 (omega arith) (omega arith) (omega arith))

  -- two half segments fewer do not reach it
  pub reach_short : (d : ℕ) → d + 2 ≤ n → Short L d (reach L d)
  reach_short d h =
      let a = 2147483648 * d in
      let s : a / L < 32768 = (div-lt_iff_lt-mul {k = L} {x = a} {y = 32768} (omega arith)).1 (omega arith) in
      let e : reach L d ≡ a / L = omega arith in
      rw e (record { inside = s; from = div-mul-le_self a L; to = lt-div-mul-add (omega arith) })

  -- more half segments reach further
  pub reach_more : (d e : ℕ) → d + 2 ≤ n → d < e → reach L d < reach L e
  reach_more d e h k =
      let r = reach L d in
      let s = reach_short d h in
      omega (arith, reach_least L e (r + 1) (omega arith) (omega arith) (omega (arith, add-mul r 1 L)))

  pub reach_some : (d : ℕ) → 0 < d → 0 < reach L d
  reach_some d h = reach_least L d 1 (omega arith) (omega arith) (omega arith)

-- ---- the two halves of an edge
pub low : (n L i d : ℕ) → 2 * i + d ≡ n → position n L i ≡ 32768 - reach L d
unfolding position
low n L i d h =
    let e : n - 2 * i ≡ d = omega arith in
    rw (le-leb (2 * i) n (omega arith), e)

pub high : (n L i d : ℕ) → n + d ≡ 2 * i → position n L i ≡ 32768 + reach L d
unfolding position
high n L i zero h = rw (low n L i 0 (omega arith), reach_none L)
high n L i (suc d) h =
    let e : 2 * i - n ≡ suc d = omega arith in
    rw (lt-leb (2 * i) n (omega arith), e)
