-- Which levels lie below, inside or above their range: those inside are exactly those that clamping leaves unchanged. Assumes nothing.
use Prim.Native.Nat.{ℕ}
use mathlib.Core.Path.{◌≡◌, refl, ◌∙◌}
use mathlib.Core.Bool.{Bool, true, false, cond}
use lib.Dec.{T}
use borrow.Author.Tests.{not-true}
use lib.Ieee.{Float, nan, inf, fin, lt, le}
use lib.Ieee.Bits.{is_true}
use lib.Ieee.Positive.{positive, above, above_of_le, le_trans_positive}
use Rattle.level.specs.Top.{Top}
use Rattle.level.specs.Clamp.{lowest, highest, clamped, clamped_level, side_of, clamp_of, InRange}
use Rattle.level.specs.declared.Spacing.{Spacing}
use Rattle.level.specs.declared.Clamp.TheVariants.{Below, Inside, Above}
use Rattle.level.proofs.Order.{not_below, lt_le, numbers, le_itself}
use Rattle.level.proofs.Within.{ends, clamped_within, not_above, under_infinity}

-- ---- any range; each of these gives the next: x lies inside, clamping leaves x unchanged, x is a number from lo to hi
module _ (lo hi x : Float) where
  inside_kept : side_of lo hi x ≡ Inside → clamped lo hi x ≡ x
  inside_kept e = go (le lo x) (lt hi x) e
    where
      go : (t u : Bool) → cond t (cond u Above Inside) Below ≡ Inside → cond t (cond u hi x) lo ≡ x
      go true false e = refl
      go true true e = cc
      go false u e = cc

  kept_within : T (le lo hi) → clamped lo hi x ≡ x → InRange lo hi x
  kept_within r e = rw e at (clamped_within lo hi x r)

  within_inside : InRange lo hi x → side_of lo hi x ≡ Inside
  within_inside w =
      let up : lt hi x ≡ false = not-true (lt hi x) (not_below x hi (numbers lo x w.least).1 (numbers x hi w.most).1 ∙ is_true (le x hi) w.most) in
      rw (is_true (le lo x) w.least, up)

-- a float that is not below the high end, infinity included, is not below the low end
from_high : (lo hi x : Float) → T (positive lo) → T (positive hi) → T (le lo hi) → T (le hi x) → T (le lo x)
from_high lo hi x p q r h = go x (above_of_le hi x q h) h
  where
    go : (x : Float) → T (above x) → T (le hi x) → T (le lo x)
    go (inf false) a h = rw (under_infinity lo p).1 tt
    go (fin false m e) a h = le_trans_positive lo hi (fin false m e) p q a r h
    go nan a h = elim a [ ]
    go (inf true) a h = elim a [ ]
    go (fin true m e) a h = elim a [ ]

-- ---- the range of a spacing
module _ (s : Spacing) (t : ℕ) (top : Top t) where
  -- both ends lie inside
  pub lowest_inside : clamp_of s t (lowest s) ≡ Inside
  unfolding clamp_of
  lowest_inside = within_inside (lowest s) (highest s t) (lowest s) (record { least = le_itself (lowest s) (numbers _ _ (ends s t top).ordered).0; most = (ends s t top).ordered })

  pub highest_inside : clamp_of s t (highest s t) ≡ Inside
  unfolding clamp_of
  highest_inside = within_inside (lowest s) (highest s t) (highest s t) (record { least = (ends s t top).ordered; most = le_itself (highest s t) (numbers _ _ (ends s t top).ordered).1 })

  -- a NaN and negative infinity lie below, infinity lies above
  pub nan_below : clamp_of s t nan ≡ Below
  unfolding clamp_of
  nan_below = rw (not_above (lowest s) (ends s t top).low).0

  pub negative_infinity_below : clamp_of s t (inf true) ≡ Below
  unfolding clamp_of
  negative_infinity_below = rw (not_above (lowest s) (ends s t top).low).1

  pub infinity_above : clamp_of s t (inf false) ≡ Above
  unfolding clamp_of
  infinity_above = rw ((under_infinity (lowest s) (ends s t top).low).1, (under_infinity (highest s t) (ends s t top).high).0)

  -- a level lies inside exactly if clamping leaves it unchanged
  pub inside_as_it_is : (x : Float) → clamp_of s t x ≡ Inside → clamped_level s t x ≡ x
  unfolding clamp_of
  inside_as_it_is x e = inside_kept (lowest s) (highest s t) x e

  pub as_it_is_inside : (x : Float) → clamped_level s t x ≡ x → clamp_of s t x ≡ Inside
  unfolding clamp_of
  as_it_is_inside x e = within_inside (lowest s) (highest s t) x (kept_within (lowest s) (highest s t) x (ends s t top).ordered e)

  -- a number less than the low end lies below, one greater than the high end above
  pub under_below : (x : Float) → T (lt x (lowest s)) → clamp_of s t x ≡ Below
  unfolding clamp_of
  under_below x h =
      let n = numbers x (lowest s) (lt_le x (lowest s) h) in
      rw (← not_below (lowest s) x n.1 n.0, is_true (lt x (lowest s)) h)

  pub over_above : (x : Float) → T (lt (highest s t) x) → clamp_of s t x ≡ Above
  unfolding clamp_of
  over_above x h =
      let low = from_high (lowest s) (highest s t) x (ends s t top).low (ends s t top).high (ends s t top).ordered (lt_le (highest s t) x h) in
      rw (is_true (le (lowest s) x) low, is_true (lt (highest s t) x) h)
