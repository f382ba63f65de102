-- A band: the strips between a closed outer line and an inner line for each edge. Assumes nothing.
use Rattle.std.specs.Prelude.{ℕ, ◌+◌, List, [], ◌∷◌, ◌++◌}
use Rattle.strip.specs.declared.triangle.Triangle.{Triangle}
use Rattle.strip.specs.Strips.{strip}

-- the line F from its point o on
abbrev pub from : ℕ → (ℕ → ℕ) → ℕ → ℕ
from o F i = F (o + i)

-- an edge of a band: p segments of the outer line, and an inner line of r segments
pub record Edge : Type 0 where
  pub p : ℕ
  pub r : ℕ
  pub line : ℕ → ℕ

-- the segments of all edges' outer lines together
abbrev pub outer_segments : List Edge → ℕ
outer_segments [] = 0
outer_segments (e ∷ es) = e.p + outer_segments es

-- one strip per edge, in walk order, along the outer line F from its point o on
unfoldable pub band_from : (ℕ → ℕ) → ℕ → List Edge → List Triangle
band_from F o [] = []
band_from F o (e ∷ es) = strip (from o F) e.line e.p e.r ++ band_from F (o + e.p) es

-- the band along the whole outer line F
abbrev pub band : (ℕ → ℕ) → List Edge → List Triangle
band F es = band_from F 0 es
