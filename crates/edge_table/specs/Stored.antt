-- The table of equal spacing: the rows of places of 1, 2, 3, .. segments, joined. Assumes nothing.
use Rattle.std.specs.Prelude.{ℕ, zero, suc, ◌+◌, ◌-◌, ◌*◌, ◌/◌, ◌≤◌, ◌≡◌, List, [], ◌++◌}
use Rattle.edge.specs.Rows.{edge_row}
use Rattle.level.specs.declared.Segments.{Segments}

-- where the row of n segments begins in the table
abbrev pub row_start : ℕ → ℕ
row_start n = (n - 1) * (n + 2) / 2

-- k rows: those of n, n + 1, .. segments
unfoldable pub rows_from : ℕ → ℕ → List ℕ
rows_from n zero = []
rows_from n (suc k) = edge_row n (65536 * n) ++ rows_from (suc n) k

-- the rows of 1 to m segments
abbrev pub rows_to : ℕ → List ℕ
rows_to m = rows_from 1 m

-- an edge of equal spacing with at most m segments, so that its row is in `rows_to m`
pub record Equal (m : ℕ) (s : Segments) : Type 0 where
  pub few : s.count ≤ m
  pub scaled : s.scaled ≡ 65536 * s.count

-- if r is at most 64: r is at least `before`, and the row of s is in `rows_to r`
pub record Widest (before : ℕ) (s : Segments) (r : ℕ) : Type 0 where
  pub past : r ≤ 64 → before ≤ r
  pub own : r ≤ 64 → Equal r s
