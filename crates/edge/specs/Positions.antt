-- The positions of the points of an edge with n segments, on a length of 65536 units; L is the edge's level times 65536. Assumes nothing.
use Rattle.std.specs.Prelude.{ℕ, ◌+◌, ◌-◌, ◌*◌, ◌/◌, min, cond, leb}

-- document 01's k: how many units d half segments reach from the middle, rounded down and at most half the edge
abbrev pub reach : ℕ → ℕ → ℕ
reach L d = min (2147483648 * d / L) 32768

-- document 01's q: the position of point i, where i is from 0 to n
unfoldable pub position : ℕ → ℕ → ℕ → ℕ
position n L i = cond (leb (2 * i) n) (32768 - reach L (n - 2 * i)) (32768 + reach L (2 * i - n))

-- entry i of a row: q(i) up to the last point, and 0 after it
unfoldable pub entry : ℕ → ℕ → ℕ → ℕ
entry n L i = cond (leb i n) (position n L i) 0
