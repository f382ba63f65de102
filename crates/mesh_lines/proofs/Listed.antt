-- The invariant of a loop that writes the rows of a list, one line each. Assumes nothing.
use Prim.Native.Nat.{ℕ, suc, ◌+◌, ◌*◌, ◌^◌, ◌≤◌, ◌<◌}
use mathlib.Core.List.{List}
use native.Mathlib.Omega.{arith}
use borrow.Author.Rules.{rules}
use lib.ListN.{length, get_or}
use Rattle.buffer.specs.Over.{Wrote}
use Rattle.buffer.proofs.Laws.{Counting, count_start, count_fits, count_step, count_done}
use Rattle.decimal_text.specs.Lines.{row_line, rows}
use Rattle.decimal_text.proofs.Rows.{rows_length}

-- of `count` rows from row `from` on, i are written; all of them take at most c bytes each
pub record Listed (c width : ℕ) (words : List ℕ) (from i count : ℕ) (out : List ℕ) (w : ℕ) (xs : List ℕ) (at : ℕ) : Type 0 where
  pub counting : Counting (λ n. row_line width words (from + n)) i count out w xs at
  pub most : length (rows width words from count) ≤ c * count

pub listed_start : (d c width : ℕ) (words : List ℕ) (from count : ℕ) {xs : List ℕ} {at : ℕ} → ((i : ℕ) → get_or words i 0 < 10 ^ suc d) → suc (suc d) * width ≤ c
    → at + c * count ≤ length xs → Listed c width words from 0 count xs at xs at
unfolding rows
listed_start d c width words from count b h room =
    let m = rows_length d c width words from count b h in
    record { counting = count_start (omega arith); most = m }

module _ {c width : ℕ} {words : List ℕ} {from i count : ℕ} {out : List ℕ} {w : ℕ} {xs : List ℕ} {at : ℕ} (l : Listed c width words from i count out w xs at) where
  pub listed_fits : i < count → w + length (row_line width words (from + i)) ≤ length out
  listed_fits h = count_fits h l.counting

  pub listed_step : {out' : List ℕ} {w' : ℕ} → i < count → Wrote out w (row_line width words (from + i)) out' w' → Listed c width words from (i + 1) count out' w' xs at
  listed_step h p = record { counting = count_step h p l.counting; most = l.most }

  pub listed_done : count ≤ i → Wrote xs at (rows width words from count) out w
  unfolding rows
  listed_done h = count_done h l.counting

  pub listed_most : count ≤ i → w ≤ at + c * count
  listed_most h = let p = listed_done h in omega (arith, l.most)

-- all facts that the needs of such a loop use
pub ruleset listing = (listed_fits, listed_step, listed_done, listed_most, rules)
