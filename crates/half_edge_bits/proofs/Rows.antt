-- The rows of bits: the empty table, and the table with one more side. Assumes nothing.
use Prim.Native.Nat.{ℕ, ◌+◌, ◌^◌, ◌<◌}
use mathlib.Core.Path.{◌≡◌, refl, sym, ap, ◌∙◌}
use mathlib.Core.Bool.{Bool, true, false, ◌||◌}
use mathlib.Core.List.{List}
use native.Mathlib.Omega.{arith}
use lib.Bits.{bit_or}
use lib.Dec.{eqb}
use lib.ListN.{length, get_or, set, length-set}
use lib.Seq.{get_or-set_same, get_or-set_other}
use borrow.Author.Tests.{eq-eqb, eqb-true, eqb-false}
use Rattle.strip.specs.declared.triangle.Triangle.{Triangle}
use Rattle.check_searches.specs.First.{some_below}
use Rattle.check_searches.proofs.First.{below_more, some_all, some_none, some_which, some_here}
use Rattle.half_edge_chains.specs.Sides.{side_start, side_end, is_side}
use Rattle.half_edge_chains.specs.Links.{Zeros}
use Rattle.half_edge_bits.specs.Rows.{bit, Rowed}
use Rattle.half_edge_bits.proofs.Bits.{bit_with, bit_zero}

-- a test holds below n + 1 exactly if it holds below n or at n
some_step : (t : ℕ → Bool) (n : ℕ) (p q : Bool) → some_below t n ≡ p → t n ≡ q → some_below t (n + 1) ≡ (p || q)
some_step t n true q h k = let w = some_which t n h in some_here t (n + 1) w.0 (omega (arith, w.1)) w.2
some_step t n false true h k = some_here t (n + 1) n (omega arith) k
some_step t n false false h k = some_none t (n + 1) (below_more t n (some_all t n h) k)

-- the empty table
pub rowed_none : (ts : List Triangle) (rows : List ℕ) → Zeros rows → length rows ≡ 64 → Rowed ts 0 rows
rowed_none ts rows z h = record { size = h; at = λ x y l k. ap (λ n. bit n y) (z.at x (omega (arith, h))) ∙ bit_zero y ∙ sym (some_none (is_side ts x y) 0 (λ i b. absurd (omega arith))) }

-- the table with one more side
module _ (ts : List Triangle) (m x y : ℕ) (rows : List ℕ) (t : Rowed ts m rows) (s : x ≡ side_start ts m) (e : y ≡ side_end ts m) (lx : x < 64) where
  row_step : (v w : ℕ) (b : Bool) → eqb (side_start ts m) v ≡ b → v < 64 → w < 64
      → bit (get_or (set rows x (bit_or (get_or rows x 0) (2 ^ y))) v 0) w ≡ some_below (is_side ts v w) (m + 1)
  row_step v w true h lv lw =
      let d : x ≡ v = s ∙ eqb-true (side_start ts m) v h in
      rw (← d) (ap (λ n. bit n w) (get_or-set_same rows x (bit_or (get_or rows x 0) (2 ^ y)) 0 (omega (arith, t.size))) ∙ bit_with (get_or rows x 0) y w
      ∙ sym (some_step (is_side ts x w) m (bit (get_or rows x 0) w) (eqb y w) (sym (t.at x w lx lw)) (rw (← s, ← e, eq-eqb x x refl))))
  row_step v w false h lv lw =
      ap (λ n. bit n w) (get_or-set_other rows x v (bit_or (get_or rows x 0) (2 ^ y)) 0 (λ d. eqb-false (side_start ts m) v h (sym s ∙ sym d))) ∙ t.at v w lv lw
      ∙ sym (some_step (is_side ts v w) m (some_below (is_side ts v w) m) false refl (rw h) ∙ or_false (some_below (is_side ts v w) m))
    where
      or_false : (b : Bool) → (b || false) ≡ b
      or_false true = refl
      or_false false = refl

  pub rowed_more : Rowed ts (m + 1) (set rows x (bit_or (get_or rows x 0) (2 ^ y)))
  rowed_more = record { size = length-set rows x (bit_or (get_or rows x 0) (2 ^ y)) ∙ t.size; at = λ v w lv lw. row_step v w (eqb (side_start ts m) v) refl lv lw }
