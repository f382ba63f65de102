-- The sides without a reverse. Assumes nothing.
use Rattle.std.specs.Prelude.{ℕ, ◌*◌, ◌≤◌, ◌<◌, ◌≡◌, Bool, true, List, ◌⊎◌, length, get_or}
use Rattle.strip.specs.declared.triangle.Triangle.{Triangle}
use Rattle.check_searches.specs.First.{some_below}
use Rattle.half_edge_chains.specs.Sides.{side_start, side_end, is_side}

-- whether the reverse of side m is a side
abbrev pub meets : List Triangle → ℕ → Bool
meets ts m = some_below (is_side ts (side_end ts m) (side_start ts m)) (length ts * 3)

-- m is one of the first `count` numbers of the list
pub record Among (opens : List ℕ) (count m : ℕ) : Type 0 where
  pub place : ℕ
  pub within : place < count
  pub is : get_or opens place 0 ≡ m

-- the first `count` numbers of the list are sides, and each of the first n sides has its reverse or is among them
pub record OpensListed (ts : List Triangle) (n : ℕ) (opens : List ℕ) (count : ℕ) : Type 0 where
  pub sides : (k : ℕ) → k < count → get_or opens k 0 < length ts * 3
  pub each : (m : ℕ) → m < n → (meets ts m ≡ true) ⊎ Among opens count m
  -- the list is in order: each side before its entry k has its reverse or is among the first k entries
  pub before : (k : ℕ) → k < count → (m : ℕ) → m < get_or opens k 0 → (meets ts m ≡ true) ⊎ Among opens k m

-- the same, unless more sides were found than the list has room for
pub record Opens (ts : List Triangle) (n : ℕ) (opens : List ℕ) (count : ℕ) : Type 0 where
  pub listed : count ≤ length opens → OpensListed ts n opens count
