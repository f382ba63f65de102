-- Lines of numbers: what the contracts of the line writers cite. Assumes nothing.
use Rattle.std.specs.Prelude.{ℕ, ◌+◌, ◌*◌, List, [], ◌∷◌, ◌++◌}
use Rattle.std.proofs.Math.Seq.{slice}
use Rattle.buffer.specs.Over.{flat}
use Rattle.decimal_text.specs.Digits.{digits}

-- the byte after a number, given the numbers that follow on its line: a newline if there are none, else a space
abbrev pub separator : List ℕ → ℕ
separator [] = 10
separator (x ∷ xs) = 32

-- numbers as one line
unfoldable pub line : List ℕ → List ℕ
line [] = []
line (x ∷ xs) = digits x ++ (separator xs ∷ line xs)

-- row n of a list with `width` words per row, as a line
abbrev pub row_line : ℕ → List ℕ → ℕ → List ℕ
row_line width words n = line (slice (width * n) (width * n + width) words)

-- `count` rows from row `from` on, one per line; a point's row has three words, a primitive's one, two or three indices
unfoldable pub rows : ℕ → List ℕ → ℕ → ℕ → List ℕ
rows width words from count = flat (λ i. row_line width words (from + i)) 0 count
