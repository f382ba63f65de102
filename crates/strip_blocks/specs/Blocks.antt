-- Pairs of steps between two lines of consecutive vertices, and the pattern that four pairs follow. Assumes nothing.
use Rattle.std.specs.Prelude.{ℕ, ◌+◌, ◌%◌, Bool, true, false, List, [], ◌∷◌}
use Rattle.strip.specs.Lines.{vertex_along}
use Rattle.strip.specs.Triangles.{indices}
use Rattle.strip_pairs.specs.Pairs.{pair}

-- vertex i of a line of consecutive vertices from x on
abbrev pub on : ℕ → ℕ → ℕ
on x i = (x + i) % 65536

-- the index words of the pair of steps from point i of both lines
unfoldable pub pair_on : Bool → ℕ → ℕ → ℕ → List ℕ
pair_on positive x y i = indices positive (pair (on x) (on y) i i)

-- the vertices of the line of n segments that count up from x, except that the last is e
abbrev pub line_of : ℕ → ℕ → ℕ → ℕ → ℕ
line_of x n e = vertex_along x 1 n e

-- the words of four pairs: first, for each word, 1 if it is on the inner line, else 0; then, for each word, how far along its line it is
unfoldable pub block_pattern : Bool → List ℕ
block_pattern true =
    0 ∷ 0 ∷ 1 ∷ 0 ∷ 1 ∷ 1 ∷ 0 ∷ 0 ∷ 1 ∷ 0 ∷ 1 ∷ 1 ∷ 0 ∷ 0 ∷ 1 ∷ 0 ∷ 1 ∷ 1 ∷ 0 ∷ 0 ∷ 1 ∷ 0 ∷ 1 ∷ 1
    ∷ 0 ∷ 1 ∷ 0 ∷ 1 ∷ 1 ∷ 0 ∷ 1 ∷ 2 ∷ 1 ∷ 2 ∷ 2 ∷ 1 ∷ 2 ∷ 3 ∷ 2 ∷ 3 ∷ 3 ∷ 2 ∷ 3 ∷ 4 ∷ 3 ∷ 4 ∷ 4 ∷ 3 ∷ []
block_pattern false =
    0 ∷ 1 ∷ 0 ∷ 0 ∷ 1 ∷ 1 ∷ 0 ∷ 1 ∷ 0 ∷ 0 ∷ 1 ∷ 1 ∷ 0 ∷ 1 ∷ 0 ∷ 0 ∷ 1 ∷ 1 ∷ 0 ∷ 1 ∷ 0 ∷ 0 ∷ 1 ∷ 1
    ∷ 0 ∷ 0 ∷ 1 ∷ 1 ∷ 0 ∷ 1 ∷ 1 ∷ 1 ∷ 2 ∷ 2 ∷ 1 ∷ 2 ∷ 2 ∷ 2 ∷ 3 ∷ 3 ∷ 2 ∷ 3 ∷ 3 ∷ 3 ∷ 4 ∷ 4 ∷ 3 ∷ 4 ∷ []
