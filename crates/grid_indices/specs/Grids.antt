-- The index words of a grid of cells. Assumes nothing.
use Rattle.std.specs.Prelude.{ℕ, ◌+◌, Bool, List, [], ◌∷◌}
use Rattle.buffer.specs.Over.{flat}
use Rattle.strip.specs.Triangles.{indices}

-- the two triangles of a cell with the corners p, p + 1 on one row and q, q + 1 on the next
abbrev pub cell_words : Bool → ℕ → ℕ → List ℕ
cell_words positive p q = indices positive (record { a = p; b = p + 1; c = q + 1 } ∷ record { a = p; b = q + 1; c = q } ∷ [])

-- the words of a row of b cells from vertex `first` on; a vertex of the next row is `width` further
unfoldable pub row_words : Bool → ℕ → ℕ → ℕ → List ℕ
row_words positive first width b = flat (λ c. cell_words positive (first + c) (first + c + width)) 0 b
