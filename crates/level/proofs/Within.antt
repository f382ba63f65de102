-- A clamped level lies within its range, whatever the level; a NaN and the infinities give an end. Assumes nothing.
use Prim.Native.Nat.{ℕ, ◌-◌, ◌≤◌}
use mathlib.Core.Path.{◌≡◌, refl}
use mathlib.Core.Bool.{Bool, true, false, cond}
use lib.IntN.{pos}
use native.Mathlib.Omega.{arith}
use lib.Dec.{T, lit<}
use lib.Ieee.{Float, nan, inf, fin, binary32, of_int, lt, le}
use lib.Ieee.Exact.{HasValue}
use lib.Ieee.Back.{round_whole}
use lib.Ieee.Order.{le_of_values}
use lib.Ieee.Positive.{positive, positive_of_value, between, le_trans_positive}
use Rattle.level.specs.Top.{Top, most_segments}
use Rattle.level.specs.Clamp.{lowest, highest, clamped, clamped_level, InRange, From1To64}
use Rattle.level.specs.declared.Spacing.{Spacing}
use Rattle.level.specs.declared.Spacing.TheVariants.{Equal, FractionalEven, FractionalOdd}
use Rattle.level.proofs.Order.{not_below, numbers, le_itself}

-- ---- any range
-- the clamped level is a number from the low end to the high end
pub clamped_within : (lo hi x : Float) → T (le lo hi) → InRange lo hi (clamped lo hi x)
clamped_within lo hi x r = go (le lo x) (lt hi x) refl refl
  where
    go : (t u : Bool) → le lo x ≡ t → lt hi x ≡ u → InRange lo hi (cond t (cond u hi x) lo)
    go false u p q = record { least = le_itself lo (numbers lo hi r).0; most = r }
    go true true p q = record { least = r; most = le_itself hi (numbers lo hi r).1 }
    go true false p q =
        let low : T (le lo x) = rw p tt in
        record { least = low; most = rw (← not_below x hi (numbers lo x low).1 (numbers lo hi r).1, q) tt }

-- ---- the range of a spacing
-- two ends above 0, in order, from 1 to 64
pub record Ends (lo hi : Float) : Type 0 where
  pub low : T (positive lo)
  pub high : T (positive hi)
  pub ordered : T (le lo hi)
  pub from_1 : T (le (fin false 1 (pos 0)) lo)
  pub to_64 : T (le hi (fin false 1 (pos 6)))

-- two whole numbers from 1 to 64, the lower first, are such ends
whole_ends : (lo hi : Float) (m n : ℕ) → HasValue lo false m 1 → HasValue hi false n 1 → 1 ≤ m → m ≤ n → n ≤ 64 → Ends lo hi
whole_ends lo hi m n v w a b c =
    let one = lit< {m = 0} {n = 1} tt in
    record {
      low = positive_of_value lo m 1 v (omega arith);
      high = positive_of_value hi n 1 w (omega arith);
      ordered = le_of_values lo hi m 1 n 1 one one v w (omega arith);
      from_1 = le_of_values (fin false 1 (pos 0)) lo 1 1 m 1 one one (refl, refl) v (omega arith);
      to_64 = le_of_values hi (fin false 1 (pos 6)) n 1 64 1 one one w (refl, refl) (omega arith);
    }

-- the high end is the greatest number of segments
pub highest_value : (s : Spacing) (t : ℕ) → Top t → HasValue (highest s t) false (most_segments s t) 1
unfolding of_int
highest_value Equal t top = round_whole binary32 false t (omega arith)
highest_value FractionalEven t top = round_whole binary32 false t (omega arith)
highest_value FractionalOdd t top = round_whole binary32 false (t - 1) (omega arith)

-- the ends of every range are such ends
pub ends : (s : Spacing) (t : ℕ) → Top t → Ends (lowest s) (highest s t)
ends Equal t top = whole_ends (lowest Equal) (highest Equal t) 1 t (refl, refl) (highest_value Equal t top) (omega arith) (omega arith) (omega arith)
ends FractionalEven t top = whole_ends (lowest FractionalEven) (highest FractionalEven t) 2 t (refl, refl) (highest_value FractionalEven t top) (omega arith) (omega arith) (omega arith)
ends FractionalOdd t top = whole_ends (lowest FractionalOdd) (highest FractionalOdd t) 1 (t - 1) (refl, refl) (highest_value FractionalOdd t top) (omega arith) (omega arith) (omega arith)

-- with the top level 64 the ranges end at 64, 64 and 63
pub highest_equal_64 : highest Equal 64 ≡ fin false 1 (pos 6)
unfolding of_int
highest_equal_64 = refl

pub highest_even_64 : highest FractionalEven 64 ≡ fin false 1 (pos 6)
unfolding of_int
highest_even_64 = refl

pub highest_odd_64 : highest FractionalOdd 64 ≡ fin false 63 (pos 0)
unfolding of_int
highest_odd_64 = refl

-- a NaN and negative infinity are not above the low end
pub not_above : (lo : Float) → T (positive lo) → (le lo nan ≡ false) × (le lo (inf true) ≡ false)
unfolding le
not_above (fin false m e) p = (refl, refl)
not_above nan p = elim p [ ]
not_above (inf _) p = elim p [ ]
not_above (fin true m e) p = elim p [ ]

-- infinity is above every finite positive number
pub under_infinity : (x : Float) → T (positive x) → (lt x (inf false) ≡ true) × (le x (inf false) ≡ true)
unfolding lt le
under_infinity (fin false m e) p = (refl, refl)
under_infinity nan p = elim p [ ]
under_infinity (inf _) p = elim p [ ]
under_infinity (fin true m e) p = elim p [ ]

-- ---- every level
module _ (s : Spacing) (t : ℕ) (top : Top t) where
  -- a clamped level lies within its range, so it is above 0 and from 1 to 64
  pub level_within : (x : Float) → InRange (lowest s) (highest s t) (clamped_level s t x)
  level_within x = clamped_within (lowest s) (highest s t) x (ends s t top).ordered

  pub level_positive : (x : Float) → T (positive (clamped_level s t x))
  level_positive x =
      let w = level_within x in
      between (lowest s) (clamped_level s t x) (highest s t) (ends s t top).low (ends s t top).high w.least w.most

  pub level_from_1_to_64 : (x : Float) → From1To64 (clamped_level s t x)
  level_from_1_to_64 x =
      let e = ends s t top in
      let y = clamped_level s t x in
      let p = level_positive x in
      record {
        least = le_trans_positive (fin false 1 (pos 0)) (lowest s) y tt e.low p e.from_1 (level_within x).least;
        most = le_trans_positive y (highest s t) (fin false 1 (pos 6)) p e.high tt (level_within x).most e.to_64;
      }

  -- a NaN and negative infinity give the low end, infinity the high end
  pub level_nan : clamped_level s t nan ≡ lowest s
  level_nan = rw (not_above (lowest s) (ends s t top).low).0

  pub level_negative_infinity : clamped_level s t (inf true) ≡ lowest s
  level_negative_infinity = rw (not_above (lowest s) (ends s t top).low).1

  pub level_infinity : clamped_level s t (inf false) ≡ highest s t
  level_infinity = rw ((under_infinity (lowest s) (ends s t top).low).1, (under_infinity (highest s t) (ends s t top).high).0)
