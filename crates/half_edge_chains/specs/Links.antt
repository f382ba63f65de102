-- A table of sides in chains: for each vertex the last side that starts there, and for each side the one before it in its
-- chain. Assumes nothing.
use Rattle.std.specs.Prelude.{ℕ, zero, suc, ◌+◌, ◌*◌, ◌≤◌, ◌<◌, ◌≡◌, cond, false, List, eqb, length, get_or}
use Rattle.strip.specs.declared.triangle.Triangle.{Triangle}
use Rattle.half_edge_chains.specs.Sides.{side_start, side_end, is_side}

-- of the first n sides, one more than the number of the last that starts at x; 0 if none does
unfoldable pub last_from : List Triangle → ℕ → ℕ → ℕ
last_from ts zero x = 0
last_from ts (suc n) x = cond (eqb (side_start ts n) x) (suc n) (last_from ts n x)

-- the link of side m: the side before it in its chain, and the vertex where side m ends
abbrev pub link_of : List Triangle → ℕ → ℕ
link_of ts m = last_from ts m (side_start ts m) * 65536 + side_end ts m

-- the table holds the first n sides
pub record Linked (ts : List Triangle) (n : ℕ) (heads links : List ℕ) : Type 0 where
  pub room : n ≤ length links
  pub head : (x : ℕ) → x < length heads → get_or heads x 0 ≡ last_from ts n x
  pub link : (m : ℕ) → m < n → get_or links m 0 ≡ link_of ts m
  pub small : (m : ℕ) → m < n → side_end ts m < 65536

-- a search for x→y along the chain of x: no side from number k up to n matches, and side k - 1 is the next to test
pub record Walked (ts : List Triangle) (n x y k : ℕ) : Type 0 where
  pub most : k ≤ n
  pub here : (j : ℕ) → k ≡ suc j → side_start ts j ≡ x
  pub passed : (m : ℕ) → k ≤ m → m < n → is_side ts x y m ≡ false

-- all words are zero
pub record Zeros (xs : List ℕ) : Type 0 where
  pub at : (k : ℕ) → k < length xs → get_or xs k 0 ≡ 0
