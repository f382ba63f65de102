-- Searches in a list of indices. Assumes nothing.
use Rattle.std.specs.Prelude.{ℕ, ◌≤◌, ◌<◌, ◌≡◌, List, length, get_or, leb}
use Rattle.check_searches.specs.First.{first}

-- the place of the first index that is not below `count`
unfoldable pub first_unknown_index : List ℕ → ℕ → ℕ
first_unknown_index ws count = first (λ k. leb count (get_or ws k 0)) (length ws)

-- every index is the number of a point
pub record AllNumbered (count : ℕ) (ws : List ℕ) : Type 0 where
  pub at : (k : ℕ) → k < length ws → get_or ws k 0 < count

-- neither x nor y is among the indices from place `from` up to, not including, `to`
pub record Lacks (ws : List ℕ) (from to x y : ℕ) : Type 0 where
  pub x_no : (k : ℕ) → from ≤ k → k < to → get_or ws k 0 ≡ x → ⊥
  pub y_no : (k : ℕ) → from ≤ k → k < to → get_or ws k 0 ≡ y → ⊥
