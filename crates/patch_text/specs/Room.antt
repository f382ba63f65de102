-- How much room one record's text, points and indices need. Assumes nothing.
use Rattle.std.specs.Prelude.{ℕ, ◌≤◌}

-- the most bytes of one record's text: 28 for the first line, 33 for each of 4,225 points, 18 for each of 8,192 triangles
abbrev pub room : ℕ
room = 286909

-- lists of v and i words have room for the points and indices of every patch
pub record FullSize (v i : ℕ) : Type 0 where
  pub vertices : 12675 ≤ v
  pub indices : 24576 ≤ i
