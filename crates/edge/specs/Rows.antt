-- Rows of an edge's positions in a list of words. Assumes nothing.
use Rattle.std.specs.Prelude.{ℕ, suc, ◌+◌, ◌≤◌, ◌<◌, ◌≡◌, ◌⊎◌, List, length, get_or}
use Rattle.edge.specs.Positions.{position}
use Rattle.edge.specs.Table.{table}

-- the row of an edge: q(0) to q(n)
abbrev pub edge_row : ℕ → ℕ → List ℕ
edge_row n L = table (position n L) (suc n)

-- xs holds the row of an edge from word `from` on
pub record RowAt (xs : List ℕ) (from n L : ℕ) : Type 0 where
  pub fits : from + n < length xs
  pub at : (i : ℕ) → i ≤ n → get_or xs (from + i) 0 ≡ position n L i

-- ys is xs with the row of an edge written from word `from` on
pub record RowFilled (xs : List ℕ) (from n L : ℕ) (ys : List ℕ) : Type 0 where
  pub row : RowAt ys from n L
  pub same : length ys ≡ length xs
  pub other : (j : ℕ) → (j < from) ⊎ (from + n < j) → get_or ys j 0 ≡ get_or xs j 0
