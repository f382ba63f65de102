-- Rows of words at the front of a list. Assumes nothing.
use Prim.Native.Nat.{ℕ, zero, suc, ◌+◌, ◌*◌, ◌≤◌, ◌<◌}
use mathlib.Core.Path.{◌≡◌, refl, ap}
use mathlib.Core.List.{List}
use native.Mathlib.Nat.{le_trans}
use native.Mathlib.Omega.{arith}
use lib.ListN.{length, drop}
use lib.Seq.{take-append-le}
use Rattle.buffer.specs.Over.{over, flat}
use Rattle.decimal_text.specs.Lines.{line, row_line, rows}
use Rattle.decimal_text.proofs.Rows.{row_within}

-- pieces that agree up to the last
flat_agree : (f g : ℕ → List ℕ) (i k : ℕ) → ((j : ℕ) → j < i + k → f j ≡ g j) → flat f i k ≡ flat g i k
unfolding flat
flat_agree f g i zero h = refl
flat_agree f g i (suc k) h = rw (h i (omega arith), flat_agree f g (i + 1) k (λ j l. h j (omega arith)))

row_front : (width n : ℕ) (xs ys : List ℕ) → width * n + width ≤ length ys → row_line width (over xs 0 ys) n ≡ row_line width ys n
unfolding over
row_front width n xs ys h = ap (λ (l : List ℕ). line (drop (width * n) l)) (take-append-le (width * n + width) ys (drop (0 + length ys) xs) h)

-- rows within the words written at the front are rows of those words
pub rows_front : (width count : ℕ) (xs ys : List ℕ) → width * count ≤ length ys → rows width (over xs 0 ys) 0 count ≡ rows width ys 0 count
unfolding rows
rows_front width count xs ys h =
    flat_agree (λ i. row_line width (over xs 0 ys) (0 + i)) (λ i. row_line width ys (0 + i)) 0 count
    (λ j l. row_front width (0 + j) xs ys (le_trans (row_within width (0 + j) count (omega arith)) h))
