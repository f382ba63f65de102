-- The length of `rows`. Assumes nothing.
use mathlib.Core.List.{List}
use Prim.Native.Nat.{ℕ, zero, suc, ◌+◌, ◌*◌, ◌^◌, ◌≤◌, ◌<◌}
use native.Mathlib.Nat.{mul-suc, mul-le-mul_left, le_trans}
use native.Mathlib.Omega.{arith}
use lib.ListN.{length, get_or, length-append}
use Rattle.buffer.specs.Over.{flat}
use Rattle.decimal_text.specs.Lines.{row_line, rows}
use Rattle.decimal_text.proofs.Lines.{below_all, part_length}

flat_most : (f : ℕ → List ℕ) (c i k : ℕ) → ((j : ℕ) → length (f j) ≤ c) → length (flat f i k) ≤ c * k
unfolding flat
flat_most f c i zero h = omega arith
flat_most f c i (suc k) h = rw (length-append, mul-suc) (omega (arith, h i, flat_most f c (i + 1) k h))

-- for numbers of at most d + 1 digits, so that a row takes at most c bytes
pub rows_length : (d c width : ℕ) (words : List ℕ) (from count : ℕ) → ((i : ℕ) → get_or words i 0 < 10 ^ suc d) → suc (suc d) * width ≤ c → length (rows width words from count) ≤ c * count
unfolding rows
rows_length d c width words from count b h =
    flat_most (λ i. row_line width words (from + i)) c 0 count (λ i. le_trans (part_length d (width * (from + i)) width words (below_all (10 ^ suc d) words b)) h)

-- a row ends before the next begins
pub row_within : (width n m : ℕ) → n < m → width * n + width ≤ width * m
row_within width n m h = rw (← mul-suc width n) (mul-le-mul_left width h)
