-- Rows of positions in lists of words. Assumes nothing.
use mathlib.Core.Path.{◌≡◌, sym, ◌∙◌}
use mathlib.Core.Logic.{◌⊎◌, inl, inr, ⊎_elim}
use mathlib.Core.List.{List}
use Prim.Native.Nat.{ℕ, suc, ◌+◌, ◌≤◌, ◌<◌}
use native.Mathlib.Decide.{dec_le}
use native.Mathlib.Nat.{zero-add}
use native.Mathlib.Omega.{arith}
use lib.ListN.{length, get_or, take, drop, replicate, length-take, length-drop, length-replicate, get_or-replicate}
use lib.Seq.{get_or-take, get_or-drop}
use Rattle.edge.specs.Positions.{position, entry}
use Rattle.edge.specs.Rows.{edge_row, RowAt, RowFilled}
use Rattle.edge.specs.Table.{table}
use Rattle.edge.proofs.Table.{is_table}
use Rattle.edge.proofs.Entries.{entry_point, entry_past}

-- a row, cut out of its list
pub row_part : (xs : List ℕ) (from n L : ℕ) → RowAt xs from n L → take (suc n) (drop from xs) ≡ edge_row n L
row_part xs from n L r =
    is_table (position n L) (suc n) 0 (take (suc n) (drop from xs))
    (length-take (suc n) (drop from xs) ∙ omega (arith, length-drop from xs, r.fits))
    (λ i h. get_or-take (suc n) (drop from xs) i 0 h ∙ get_or-drop from xs i 0 ∙ r.at i (omega arith))

-- a row stays where another is filled in elsewhere
pub row_kept : {xs ys : List ℕ} {from n L to m K : ℕ} → RowFilled xs from n L ys → (to + m < from) ⊎ (from + n < to) → RowAt xs to m K → RowAt ys to m K
row_kept f apart r = record {
  fits = omega (arith, f.same, r.fits);
  at = λ i h. f.other _ (⊎_elim (λ a. inl (omega arith)) (λ a. inr (omega arith)) apart) ∙ r.at i h;
}

-- a row, and 0 past its last point, 65 words in all
pub is_row : (n L : ℕ) (xs : List ℕ) → length xs ≡ 65 → ((i : ℕ) → i ≤ n → get_or xs i 0 ≡ position n L i) → ((i : ℕ) → i < 65 → n < i → get_or xs i 0 ≡ 0)
    → xs ≡ table (entry n L) 65
is_row n L xs size near far = is_table (entry n L) 65 0 xs size at
  where
    at : (i : ℕ) → i < 65 → get_or xs i 0 ≡ entry n L i
    at i h = elim (dec_le i n) [
      | yes a ↦ near i a ∙ sym (entry_point n L i a)
      | no a ↦ far i h (omega arith) ∙ sym (entry_past n L i (omega arith))
    ]

-- filled in over 65 zeros
pub row_filled : (n L : ℕ) (xs : List ℕ) → RowFilled (replicate 65 0) 0 n L xs → xs ≡ table (entry n L) 65
row_filled n L xs f =
    is_row n L xs (f.same ∙ length-replicate {A = ℕ} 65 0) (λ i h. rw (zero-add i) at (f.row.at i h))
    (λ i h k. f.other i (inr (omega arith)) ∙ get_or-replicate {A = ℕ} 65 i 0 0 h)
