-- A table of sides for up to 64 vertices: one row of bits per vertex. Assumes nothing.
use Rattle.std.specs.Prelude.{ℕ, ◌/◌, ◌%◌, ◌^◌, ◌<◌, ◌≡◌, Bool, List, eqb, length, get_or}
use Rattle.strip.specs.declared.triangle.Triangle.{Triangle}
use Rattle.check_searches.specs.First.{some_below}
use Rattle.half_edge_chains.specs.Sides.{is_side}

-- whether bit k of n is set
unfoldable pub bit : ℕ → ℕ → Bool
bit n k = eqb (n / 2 ^ k % 2) 1

-- the table holds the first n sides: bit y of row x is set exactly if one of them is x→y
pub record Rowed (ts : List Triangle) (n : ℕ) (rows : List ℕ) : Type 0 where
  pub size : length rows ≡ 64
  pub at : (x y : ℕ) → x < 64 → y < 64 → bit (get_or rows x 0) y ≡ some_below (is_side ts x y) n
