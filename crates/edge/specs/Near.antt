-- How near the position of a point of an edge is to its exact place. Assumes nothing.
use Rattle.std.specs.Prelude.{ℕ, ◌+◌, ◌*◌, ◌<◌}

-- q is less than one unit from the exact place of point i, which document 01 gives as 65536 (L + (2 i - n) 65536) / (2 L). Both sides are
-- multiplied by 2 L, and what one side subtracts is added to the other side, so that all numbers are natural numbers.
pub record NearPlace (n L i q : ℕ) : Type 0 where
  -- q < place + 1
  pub below : 2 * L * q + 65536 * 65536 * n < 65536 * L + 2 * 65536 * 65536 * i + 2 * L
  -- place < q + 1
  pub above : 65536 * L + 2 * 65536 * 65536 * i < 2 * L * q + 65536 * 65536 * n + 2 * L
