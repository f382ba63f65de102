-- If no side is repeated, no triangle has a side in common with an earlier one. Assumes nothing.
use Prim.Native.Nat.{ℕ, suc, ◌+◌, ◌*◌, ◌<◌}
use mathlib.Core.Path.{◌≡◌, refl, sym, ◌∙◌}
use mathlib.Core.Bool.{Bool, true, false, true≢false}
use mathlib.Core.List.{List}
use native.Mathlib.Omega.{arith}
use native.Mathlib.Decide.{dec_le}
use Rattle.strip.specs.declared.triangle.Triangle.{Triangle}
use Rattle.check_searches.specs.First.{some_below}
use Rattle.check_searches.specs.Triangles.{triangle_at, share_side}
use Rattle.check_side_searches.specs.Skips.{NewTo}
use Rattle.check_searches.proofs.First.{some_none, some_all}
use Rattle.half_edge_chains.specs.Sides.{side_start, side_end, is_side, Once}
use Rattle.half_edge_chains.proofs.Numbers.{numbered_start, numbered_end, same_ends, share_which}

pub once_none : (ts : List Triangle) → Once ts 0
once_none ts = record { each = λ m l. absurd (omega arith) }

pub once_more : (ts : List Triangle) (n : ℕ) → Once ts n → some_below (is_side ts (side_start ts n) (side_end ts n)) n ≡ false → Once ts (suc n)
once_more ts n o h = record {
  each = λ m l i k. elim (dec_le n m) [
    | yes p ↦ (let d : m ≡ n = omega arith in rw d (some_all (is_side ts (side_start ts n) (side_end ts n)) n h i (omega arith)))
    | no p ↦ o.each m (omega arith) i k
  ];
}

test_false : (b : Bool) → (b ≡ true → ⊥) → b ≡ false
test_false true h = absurd (h refl)
test_false false h = refl

module _ (ts : List Triangle) (all : ℕ) (o : Once ts (all * 3)) where
  apart : (i j : ℕ) → i < j → j < all → share_side (triangle_at ts i) (triangle_at ts j) ≡ true → ⊥
  apart i j l k h =
      let w = share_which (triangle_at ts i) (triangle_at ts j) h in
      let v = w.side in
      let m = j * 3 + v.number in
      let n = i * 3 + w.first in
      let lm = w.least in
      let lv = v.least in
      let s : side_start ts n ≡ side_start ts m = numbered_start ts i w.first n refl lm ∙ v.start ∙ sym (numbered_start ts j v.number m refl lv) in
      let e : side_end ts n ≡ side_end ts m = numbered_end ts i w.first n refl lm ∙ v.end ∙ sym (numbered_end ts j v.number m refl lv) in
      true≢false (sym (same_ends (side_start ts n) (side_end ts n) (side_start ts m) (side_end ts m) s e) ∙ o.each m (omega arith) n (omega arith))

  pub once_new : NewTo ts all
  once_new = record { each = λ j k. some_none (λ i. share_side (triangle_at ts i) (triangle_at ts j)) j (λ i l. test_false _ (apart i j l k)) }
