-- The list of sides without a reverse. Assumes nothing.
use Prim.Native.Nat.{ℕ, ◌+◌, ◌*◌, ◌≤◌, ◌<◌}
use mathlib.Core.Path.{◌≡◌, sym, ◌∙◌}
use mathlib.Core.Bool.{true}
use mathlib.Core.List.{List}
use mathlib.Core.Logic.{◌⊎◌, inl, inr}
use native.Mathlib.Omega.{arith}
use native.Mathlib.Decide.{dec_le}
use lib.ListN.{length, set}
use lib.Seq.{get_or-set_same, get_or-set_other}
use Rattle.strip.specs.declared.triangle.Triangle.{Triangle}
use Rattle.half_edges.specs.Opens.{meets, Among, Opens}

-- no sides so far
pub opens_none : (ts : List Triangle) (opens : List ℕ) → Opens ts 0 opens 0
opens_none ts opens = record { listed = λ l. record { sides = λ k b. absurd (omega arith); each = λ m b. absurd (omega arith); before = λ k b. absurd (omega arith) } }

-- equally many sides
pub opens_as : {ts : List Triangle} {n m count : ℕ} {opens : List ℕ} → n ≡ m → Opens ts n opens count → Opens ts m opens count
opens_as e o = rw (sym e) o

-- a side with a reverse
pub opens_met : {ts : List Triangle} {m count : ℕ} {opens : List ℕ} → Opens ts m opens count → meets ts m ≡ true → Opens ts (m + 1) opens count
opens_met {m = m} o h = record {
  listed = λ l. record {
    sides = (o.listed l).sides;
    each = λ i b. elim (dec_le m i) [ yes p ↦ (let d : i ≡ m = omega arith in rw d (inl h)) | no p ↦ (o.listed l).each i (omega arith) ];
    before = (o.listed l).before;
  };
}

-- a side without a reverse, if the list has room
module _ (ts : List Triangle) (m count : ℕ) (opens : List ℕ) (l : count < length opens) (b : m < length ts * 3) where
  kept : (i : ℕ) → Among opens count i → Among (set opens count m) (count + 1) i
  kept i a = record {
    place = a.place;
    within = omega (arith, a.within);
    is = get_or-set_other opens count a.place m 0 (λ d. omega (arith, a.within, d)) ∙ a.is;
  }

  old_or_kept : {i : ℕ} → (meets ts i ≡ true) ⊎ Among opens count i → (meets ts i ≡ true) ⊎ Among (set opens count m) (count + 1) i
  old_or_kept (inl h) = inl h
  old_or_kept {i = i} (inr a) = inr (kept i a)

  -- the first k entries are unchanged
  early : (k i : ℕ) → k ≤ count → Among opens k i → Among (set opens count m) k i
  early k i h a = record {
    place = a.place;
    within = a.within;
    is = get_or-set_other opens count a.place m 0 (λ d. omega (arith, a.within, d)) ∙ a.is;
  }

  old_or_early : {k i : ℕ} → k ≤ count → (meets ts i ≡ true) ⊎ Among opens k i → (meets ts i ≡ true) ⊎ Among (set opens count m) k i
  old_or_early h (inl e) = inl e
  old_or_early {k} {i} h (inr a) = inr (early k i h a)

  new : Among (set opens count m) (count + 1) m
  new = record { place = count; within = omega arith; is = get_or-set_same opens count m 0 l }

  pub opens_more : Opens ts m opens count → Opens ts (m + 1) (set opens count m) (count + 1)
  opens_more o =
      let before = o.listed (omega (arith, l)) in record {
        listed = λ h. record {
          sides = λ k c. elim (dec_le count k) [
            | yes p ↦ (let d : k ≡ count = omega arith in rw (d, get_or-set_same opens count m 0 l) b)
            | no p ↦ rw (get_or-set_other opens count k m 0 (λ d. p (omega (arith, d)))) (before.sides k (omega arith))
          ];
          before = λ k c i j. elim (dec_le count k) [
            | yes p ↦ (let d : k ≡ count = omega arith in rw d (old_or_early (omega arith) (before.each i (rw (d, get_or-set_same opens count m 0 l) at j))))
            | no p ↦ old_or_early (omega arith) (before.before k (omega arith) i (rw (get_or-set_other opens count k m 0 (λ d. p (omega (arith, d)))) at j))
          ];
          each = λ i c. elim (dec_le m i) [ yes p ↦ (let d : i ≡ m = omega arith in rw d (inr new)) | no p ↦ old_or_kept (before.each i (omega arith)) ];
        };
      }

-- a side without a reverse, if the list is full
pub opens_full : (ts : List Triangle) (n : ℕ) (opens : List ℕ) → Opens ts n opens (length opens + 1)
opens_full ts n opens = record { listed = λ h. absurd (omega arith) }
