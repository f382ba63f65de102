-- `scaled_level`, which gives L, is the least whole number not below the level times 65536. Assumes nothing.
use Prim.Native.Nat.{ℕ, ◌+◌, ◌-◌, ◌*◌, ◌/◌, ◌≤◌, ◌<◌}
use mathlib.Core.Bool.{false}
use native.Mathlib.Nat.{add-mul, mul-one, mul_assoc, div-lt_iff_lt-mul, le_trans, lt_of_lt_of_le, mul-pos}
use native.Mathlib.Omega.{arith}
use lib.Dec.{T, lt→ltb, lit<}
use lib.Ieee.{Float, le}
use lib.Ieee.Exact.{HasValue}
use lib.Ieee.Positive.{num, den, positive, den_pos, own_value, first_pos, value_pos, value→cross, le→cross, cross→le, through, above_of_le}
use Rattle.level.specs.Top.{Top, most_segments}
use Rattle.level.specs.Clamp.{lowest, highest, clamped_level}
use Rattle.level.specs.Scale.{scaled_level, of_parts, LeastParts, ScaledInRange}
use Rattle.level.specs.declared.Spacing.{Spacing}
use Rattle.level.specs.declared.Spacing.TheVariants.{Equal, FractionalEven, FractionalOdd}
use Rattle.level.proofs.Within.{highest_value, ends, level_within, level_positive}

-- ---- both bounds, with x as a fraction
parts_enough : (x : Float) → num x * 65536 ≤ scaled_level x * den x
unfolding scaled_level
parts_enough x =
    let D = den x in
    let X = num x * 65536 in
    let q = (X + (D - 1)) / D in
    let over : X + (D - 1) < (q + 1) * D = (div-lt_iff_lt-mul {k = D} {x = X + (D - 1)} {y = q + 1} (den_pos x)).0 (omega arith) in
    omega (arith, den_pos x, add-mul q 1 D)

parts_least : (x : Float) (k : ℕ) → num x * 65536 ≤ k * den x → scaled_level x ≤ k
unfolding scaled_level
parts_least x k h =
    let D = den x in
    let X = num x * 65536 in
    omega (arith, (div-lt_iff_lt-mul {k = D} {x = X + (D - 1)} {y = k + 1} (den_pos x)).1 (omega (arith, den_pos x, add-mul k 1 D)))

-- ---- L is the least whole number not below x * 65536, so it does not fall as the level rises
pub least_parts : (x : Float) → T (positive x) → LeastParts x (scaled_level x)
least_parts x p =
    let L = scaled_level x in
    let some : 0 < num x * 65536 = mul-pos (value_pos x (num x) (den x) p (den_pos x) (own_value x p)) (lit< tt) in
    let l : T (positive (of_parts L)) = lt→ltb 0 L (first_pos L (den x) (lt_of_lt_of_le some (parts_enough x))) in
    record {
      enough = cross→le x (of_parts L) p l (rw mul-one (parts_enough x));
      least = λ k h. parts_least x k (rw mul-one at (le→cross x (of_parts k) p (above_of_le x (of_parts k) p h) h));
    }

pub parts_rise : (x y : Float) → T (positive x) → T (positive y) → T (le x y) → scaled_level x ≤ scaled_level y
parts_rise x y p q h = parts_least x (scaled_level y) (through (num x) (num y) (scaled_level y) (den x) (den y) 65536 (den_pos y) (le→cross x y p q h) (parts_enough y))

-- L of a whole number n is at most 65536 * n
whole_parts : (x : Float) (n : ℕ) → HasValue x false n 1 → scaled_level x ≤ 65536 * n
whole_parts x n v = parts_least x (65536 * n) (omega (arith, value→cross x n 1 v, mul_assoc 65536 n (den x)))

-- ---- L of every level
-- a number between L of the range's low end and of its high end is in range
in_range : (s : Spacing) (t L : ℕ) → Top t → (scaled_level (lowest s) ≤ L) × (L ≤ 65536 * most_segments s t) → ScaledInRange L
unfolding scaled_level
in_range Equal t L top h = omega arith
in_range FractionalEven t L top h = omega arith
in_range FractionalOdd t L top h = omega arith

module _ (s : Spacing) (t : ℕ) (top : Top t) (x : Float) where
  pub level_least_parts : LeastParts (clamped_level s t x) (scaled_level (clamped_level s t x))
  level_least_parts = least_parts (clamped_level s t x) (level_positive s t top x)

  -- L lies between that of the low end and that of the most segments
  pub level_parts : (scaled_level (lowest s) ≤ scaled_level (clamped_level s t x)) × (scaled_level (clamped_level s t x) ≤ 65536 * most_segments s t)
  level_parts =
      let e = ends s t top in
      let y = clamped_level s t x in
      let p = level_positive s t top x in
      let w = level_within s t top x in (
        parts_rise (lowest s) y e.low p w.least,
        le_trans (parts_rise y (highest s t) p e.high w.most) (whole_parts (highest s t) (most_segments s t) (highest_value s t top)),
      )

  pub level_in_range : ScaledInRange (scaled_level (clamped_level s t x))
  level_in_range = in_range s t (scaled_level (clamped_level s t x)) top level_parts
