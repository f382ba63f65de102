-- 23.3: every level is clamped and rounded, and its edge divided, as the chapter requires.
-- Assumes nothing.
use Prim.Native.Nat.{ℕ, ◌*◌, ◌≤◌}
use mathlib.Core.Path.{◌≡◌, refl, ap, ap₂, ◌∙◌}
use mathlib.Core.Bool.{Bool, true, false, cond}
use native.Mathlib.Omega.{arith}
use native.Mathlib.Nat.{mul-le-mul_right, le_of_mul-le-mul_right}
use lib.Dec.{T, ltb→lt, lt→ltb}
use borrow.Author.Tests.{eq-eqb, ne_eqb, not-true}
use lib.Ieee.{Float, lt, le}
use lib.Ieee.Bits.{is_true}
use lib.Ieee.Exact.{HasValue}
use lib.Ieee.Positive.{positive, num, den, den_pos, value→cross, le→cross, cross→le, above_of_le}
use Rattle.level.specs.declared.Spacing.{Spacing}
use Rattle.level.specs.declared.Spacing.TheVariants.{Equal, FractionalEven, FractionalOdd}
use Rattle.level.specs.declared.Clamp.TheVariants.{Below, Inside, Above}
use Rattle.level.specs.Top.{Top}
use Rattle.level.specs.Clamp.{lowest, highest, clamped, clamped_level, side_of, clamp_of}
use Rattle.level.specs.Scale.{scaled_level, of_parts, LeastParts}
use Rattle.level.specs.Rounding.{LeastCount}
use Rattle.level.specs.Segments.{segments_at, segments_of, raised, as_inner, inner_segments, Valid}
use Rattle.level.proofs.Order.{not_below, numbers}
use Rattle.level.proofs.Within.{highest_value, level_positive}
use Rattle.level.proofs.Sides.{under_below, over_above}
use Rattle.level.proofs.Scale.{least_parts, parts_rise}
use Rattle.level.proofs.Rounding.{least_count}
use Rattle.level.proofs.Valid.{segments_valid}
use Rattle.edge.specs.Positions.{position}
use Rattle.mesh_geometry.specs.Segmented.{run}
use Rattle.vulkan_chapter.specs.Lengths.{Decreases}
use Rattle.vulkan_chapter.specs.Spacing.{low_end, high_end, LevelClamped, whole_level, RoundedUp, LengthsOf, Spaced, EdgeRule, one_plus, Subdivides}
use Rattle.vulkan_chapter.proofs.Lengths.{divided, additional, vanishes, all_equal, decreases}

-- ---- the clamp
module _ (lo hi x : Float) where
  below_low : side_of lo hi x ≡ Below → clamped lo hi x ≡ lo
  below_low e = go (le lo x) (lt hi x) e
    where
      go : (a b : Bool) → cond a (cond b Above Inside) Below ≡ Below → cond a (cond b hi x) lo ≡ lo
      go false b e = refl
      go true true e = cc
      go true false e = cc

  above_high : side_of lo hi x ≡ Above → clamped lo hi x ≡ hi
  above_high e = go (le lo x) (lt hi x) e
    where
      go : (a b : Bool) → cond a (cond b Above Inside) Below ≡ Above → cond a (cond b hi x) lo ≡ hi
      go true true e = refl
      go true false e = cc
      go false b e = cc

  inside_kept : T (le lo x) → T (le x hi) → clamped lo hi x ≡ x
  inside_kept h k =
      let over : lt hi x ≡ false = not-true (lt hi x) (not_below x hi (numbers x hi k).0 (numbers x hi k).1 ∙ is_true (le x hi) k) in
      rw (is_true (le lo x) h, over)

low_value : (s : Spacing) → HasValue (lowest s) false (low_end s) 1
low_value Equal = (refl, refl)
low_value FractionalEven = (refl, refl)
low_value FractionalOdd = (refl, refl)

clamps : (s : Spacing) (t : ℕ) (x : Float) → Top t → LevelClamped s t x (clamped_level s t x)
unfolding clamp_of
clamps s t x top = record {
  low = lowest s;
  high = highest s t;
  low_is = low_value s;
  high_is = high_value s;
  below = λ h. below_low (lowest s) (highest s t) x (under_below s t top x h);
  above = λ h. above_high (lowest s) (highest s t) x (over_above s t top x h);
  inside = inside_kept (lowest s) (highest s t) x;
}
  where
    high_value : (s : Spacing) → HasValue (highest s t) false (high_end s t) 1
    high_value Equal = highest_value Equal t top
    high_value FractionalEven = highest_value FractionalEven t top
    high_value FractionalOdd = highest_value FractionalOdd t top

-- ---- rounding a level is rounding its whole parts
module _ (f : Float) (p : T (positive f)) (L : ℕ) (l : LeastParts f L) where
  -- f is not above the whole number k exactly if L is not above 65536 k
  whole_from : (k : ℕ) → T (le f (whole_level k)) → L ≤ 65536 * k
  whole_from k h =
      let above : T (positive (whole_level k)) = above_of_le f (whole_level k) p h in
      let c : num f * 1 ≤ k * 1 * den f = le→cross f (whole_level k) p above h in
      l.least (65536 * k)
      (cross→le f (of_parts (65536 * k)) p (lt→ltb 0 (65536 * k) (omega (arith, ltb→lt 0 k above))) (omega arith))

  parts_cross : num f * 65536 ≤ L * den f
  parts_cross =
      let above : T (positive (of_parts L)) = above_of_le f (of_parts L) p l.enough in
      let c : num f * 65536 ≤ L * 1 * den f = le→cross f (of_parts L) p above l.enough in
      omega arith

  whole_to : (k : ℕ) → L ≤ 65536 * k → T (le f (whole_level k))
  whole_to k h =
      let above : T (positive (of_parts L)) = above_of_le f (of_parts L) p l.enough in
      cross→le f (whole_level k) p (lt→ltb 0 k (omega (arith, ltb→lt 0 L above))) (omega (arith, parts_cross, mul-le-mul_right (den f) h))

  rounded_up : (s : Spacing) (n : ℕ) → LeastCount s L n → RoundedUp s f n
  rounded_up s n c = record {
    kind = c.kind;
    enough = whole_to n c.enough;
    nearest = λ k e h. c.least k e (whole_from k h);
  }

  -- a whole number is 65536 times as many parts
  whole_parts : (n : ℕ) → HasValue f false n 1 → L ≤ 65536 * n → L ≡ 65536 * n
  whole_parts n v h =
      let c : num f * 1 ≡ n * den f = value→cross f n 1 v in
      let m : 65536 * n * den f ≤ L * den f = omega (arith, parts_cross) in
      omega (arith, le_of_mul-le-mul_right m (den_pos f))

parts_only : (f : Float) (L L' : ℕ) → LeastParts f L → LeastParts f L' → L ≡ L'
parts_only f L L' l l' = omega (arith, l.least L' l'.enough, l'.least L l.enough)

-- ---- the edge of a level
lengths_at : (s : Spacing) (L : ℕ) → Valid (segments_at s L).count (segments_at s L).scaled
    → LengthsOf s (segments_at s L).count L (position (segments_at s L).count (segments_at s L).scaled)
lengths_at Equal L v = all_equal _ _ v refl
lengths_at FractionalEven L v = record { additional = additional _ L v; equal = all_equal _ L v; vanishes = vanishes _ L v }
lengths_at FractionalOdd L v = record { additional = additional _ L v; equal = all_equal _ L v; vanishes = vanishes _ L v }

spaced_at : (s : Spacing) (f : Float) → T (positive f) → Valid (segments_at s (scaled_level f)).count (segments_at s (scaled_level f)).scaled
    → Spaced s f (run (segments_at s (scaled_level f)))
spaced_at s f p v =
    let l = least_parts f p in
    record {
      rounded = rounded_up f p (scaled_level f) l s _ (least_count s (scaled_level f));
      divided = divided _ _ v;
      lengths = λ L h. rw (parts_only f L (scaled_level f) h l) (lengths_at s (scaled_level f) v);
    }

raised_valid : (s : Spacing) → Valid (raised s).count (raised s).scaled
raised_valid Equal = omega arith
raised_valid FractionalEven = omega arith
raised_valid FractionalOdd = omega arith

-- of two levels with the same number of segments, the lower level has no greater L
scaled_rises : (s : Spacing) (L L' : ℕ) → (segments_at s L).count ≡ (segments_at s L').count → L ≤ L' → (segments_at s L).scaled ≤ (segments_at s L').scaled
scaled_rises Equal L L' e h = omega arith
scaled_rises FractionalEven L L' e h = h
scaled_rises FractionalOdd L L' e h = h

-- ---- our edges
abbrev pub our_edges : EdgeRule
our_edges = record {
  clamp = clamped_level;
  edge = λ s t x. run (segments_of s t x);
  inner = λ s t x. run (inner_segments s t x);
}

spaced : (s : Spacing) (t : ℕ) (x : Float) → Top t → Spaced s (clamped_level s t x) (run (segments_of s t x))
unfolding segments_of
spaced s t x top = spaced_at s (clamped_level s t x) (level_positive s t top x) (segments_valid s t top x)

lower : (n n' L L' : ℕ) → n ≡ n' → Valid n L → Valid n' L' → L ≤ L' → Decreases n (position n L) (position n' L')
lower n n' L L' e v v' h = rw (← e) (decreases n L L' v (rw (← e) at v') h)

falls : (s : Spacing) (t : ℕ) (x y : Float) → Top t → (segments_of s t x).count ≡ (segments_of s t y).count
    → T (le (clamped_level s t x) (clamped_level s t y))
    → Decreases (segments_of s t x).count (run (segments_of s t x)).q (run (segments_of s t y)).q
unfolding segments_of
falls s t x y top e h =
    lower _ _ _ _ e (segments_valid s t top x) (segments_valid s t top y)
    (scaled_rises s _ _ e (parts_rise (clamped_level s t x) (clamped_level s t y) (level_positive s t top x) (level_positive s t top y) h))

one : (s : Spacing) (t : ℕ) (x : Float) → (segments_of s t x).count ≡ 1 → Spaced s one_plus (run (inner_segments s t x))
unfolding as_inner scaled_level
one s t x e = rw (eq-eqb (segments_of s t x).count 1 e) (spaced_at s one_plus tt (raised_valid s))

own : (s : Spacing) (t : ℕ) (x : Float) → ((segments_of s t x).count ≡ 1 → ⊥) → run (inner_segments s t x) ≡ run (segments_of s t x)
unfolding as_inner
own s t x e = rw (ne_eqb (segments_of s t x).count 1 e)

scaled_whole : (s : Spacing) (L : ℕ) → L ≡ 65536 * (segments_at s L).count → (segments_at s L).scaled ≡ 65536 * (segments_at s L).count
scaled_whole Equal L e = refl
scaled_whole FractionalEven L e = e
scaled_whole FractionalOdd L e = e

whole_level_lem : (s : Spacing) (t : ℕ) (x y : Float) → Top t → HasValue (clamped_level s t x) false (segments_of s t x).count 1
    → (segments_of s t x).count ≡ (segments_of Equal t y).count → run (segments_of s t x) ≡ run (segments_of Equal t y)
unfolding segments_of
whole_level_lem s t x y top v f =
    let c = clamped_level s t x in
    let p = level_positive s t top x in
    let e = whole_parts c p (scaled_level c) (least_parts c p) (segments_at s (scaled_level c)).count v (least_count s (scaled_level c)).enough in
    ap₂ (λ n L. run (record { count = n; scaled = L })) f (scaled_whole s (scaled_level c) e ∙ ap (λ n. 65536 * n) f)

identical : (s : Spacing) (t t' : ℕ) (x y : Float) → clamped_level s t x ≡ clamped_level s t' y → run (segments_of s t x) ≡ run (segments_of s t' y)
unfolding segments_of
identical s t t' x y e = ap (λ (f : Float). run (segments_at s (scaled_level f))) e

pub subdivides : Subdivides our_edges
subdivides = record {
  clamped = clamps;
  spaced = spaced;
  identical = identical;
  decreases = falls;
  whole_level_lem = whole_level_lem;
  inner_one = λ s t x top. one s t x;
  inner_more = λ s t x top. own s t x;
}
