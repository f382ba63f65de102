-- The segments of every level, outer or inner, are valid for an edge, and at most as many as the top level allows. Assumes nothing.
use mathlib.Core.Path.{◌≡◌, refl}
use mathlib.Core.Bool.{Bool, true, false, cond}
use Prim.Native.Nat.{ℕ, ◌*◌, ◌≤◌}
use native.Mathlib.Omega.{arith}
use lib.Dec.{eqb}
use borrow.Author.Tests.{eqb-false}
use lib.Ieee.{Float}
use Rattle.level.specs.Top.{Top, most_segments}
use Rattle.level.specs.Clamp.{lowest, clamped_level}
use Rattle.level.specs.Scale.{scaled_level}
use Rattle.level.specs.Segments.{segments_at, segments_of, raised, as_inner, inner_segments, Valid}
use Rattle.level.specs.declared.Spacing.{Spacing}
use Rattle.level.specs.declared.Spacing.TheVariants.{Equal, FractionalEven, FractionalOdd}
use Rattle.level.specs.declared.Segments.{Segments}
use Rattle.level.proofs.Top.{top_two}
use Rattle.level.proofs.Scale.{level_parts}

-- for a scaled level in its range
valid_at : (s : Spacing) (t L : ℕ) → Top t → (scaled_level (lowest s) ≤ L) × (L ≤ 65536 * most_segments s t) → Valid (segments_at s L).count
    (segments_at s L).scaled × ((segments_at s L).count ≤ most_segments s t)
unfolding scaled_level
valid_at Equal t L top h = omega arith
valid_at FractionalEven t L top h = omega arith
valid_at FractionalOdd t L top h = omega arith

module _ (s : Spacing) (t : ℕ) (top : Top t) (x : Float) where
  -- the segments are valid, and at most t, or t - 1 for odd spacing
  pub segments_valid : Valid (segments_of s t x).count (segments_of s t x).scaled
  unfolding segments_of
  segments_valid = (valid_at s t (scaled_level (clamped_level s t x)) top (level_parts s t top x)).0

  pub segments_at_most : (segments_of s t x).count ≤ most_segments s t
  unfolding segments_of
  segments_at_most = (valid_at s t (scaled_level (clamped_level s t x)) top (level_parts s t top x)).1

-- with odd spacing and the top level 2 every level gives one segment
pub odd_top_two : (x : Float) → (segments_of FractionalOdd 2 x).count ≡ 1
odd_top_two x = omega (arith, (segments_valid FractionalOdd 2 top_two x).some, segments_at_most FractionalOdd 2 top_two x)

-- ---- inner levels
pub raised_equal : raised Equal ≡ record { count = 2; scaled = 131072 }
raised_equal = refl

pub raised_odd : raised FractionalOdd ≡ record { count = 3; scaled = 65537 }
raised_odd = refl

raised_valid : (s : Spacing) → Valid (raised s).count (raised s).scaled × (2 ≤ (raised s).count)
raised_valid Equal = omega arith
raised_valid FractionalEven = omega arith
raised_valid FractionalOdd = omega arith

-- the raised segments are allowed if two segments are
raised_at_most : (s : Spacing) (t : ℕ) → Top t → 2 ≤ most_segments s t → (raised s).count ≤ most_segments s t
raised_at_most Equal t top h = omega arith
raised_at_most FractionalEven t top h = omega arith
raised_at_most FractionalOdd t top h = omega arith

module _ (s : Spacing) (t : ℕ) (top : Top t) (x : Float) where
  -- a property of the raised segments, and of the level's own segments if their count is not 1, holds for an inner level
  inner : (P : Segments → Type 0) → P (raised s) → (((segments_of s t x).count ≡ 1 → ⊥) → P (segments_of s t x)) → P (inner_segments s t x)
  unfolding as_inner
  inner P r o = go (eqb (segments_of s t x).count 1) refl
    where
      go : (b : Bool) → eqb (segments_of s t x).count 1 ≡ b → P (cond b (raised s) (segments_of s t x))
      go true e = r
      go false e = o (eqb-false (segments_of s t x).count 1 e)

  pub inner_valid : Valid (inner_segments s t x).count (inner_segments s t x).scaled
  inner_valid = inner (λ g. Valid g.count g.scaled) (raised_valid s).0 (λ _. segments_valid s t top x)

  pub inner_two : 2 ≤ (inner_segments s t x).count
  inner_two = inner (λ g. 2 ≤ g.count) (raised_valid s).1 (λ n. omega (arith, (segments_valid s t top x).some))

  -- an inner level also gives at most as many segments as the top level allows, unless that is one segment
  pub inner_at_most : 2 ≤ most_segments s t → (inner_segments s t x).count ≤ most_segments s t
  inner_at_most h = inner (λ g. g.count ≤ most_segments s t) (raised_at_most s t top h) (λ _. segments_at_most s t top x)
