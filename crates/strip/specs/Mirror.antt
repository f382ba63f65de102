-- A strip walked from the other end of its two lines, and equality of triangles up to the order of corners. Assumes nothing.
use Rattle.std.specs.Prelude.{ℕ, suc, ◌-◌, ◌%◌, ◌≡◌, get_or}
use mathlib.Core.List.{List, Perm}
use Rattle.strip.specs.declared.triangle.Triangle.{Triangle}
use Rattle.strip.specs.Triangles.{corners}
use Rattle.strip.specs.Strips.{strip}

-- the vertices of a line of n segments, counted from its other end
abbrev pub from_end : ℕ → (ℕ → ℕ) → ℕ → ℕ
from_end n F i = F (n - i)

-- the strip between the same two lines, walked from their other end
abbrev pub mirror : (ℕ → ℕ) → (ℕ → ℕ) → ℕ → ℕ → List Triangle
mirror A B p r = strip (from_end p A) (from_end r B) p r

-- s and t have the same three corners, in any order
abbrev pub SameCorners : Triangle → Triangle → Type 0
SameCorners s t = Perm (corners s) (corners t)

-- both lines have an odd number of segments, so their middle segments face each other
abbrev pub BothOdd : ℕ → ℕ → Type 0
BothOdd p r = (p % 2 ≡ 1) × (r % 2 ≡ 1)

-- triangles k and k + 1 of ts split the quadrilateral between the segments x to u and y to v along the diagonal from u to y
pub record SplitsQuad (ts : List Triangle) (k x u y v : ℕ) : Type 0 where
  pub first : (d : Triangle) → get_or ts k d ≡ record { a = x; b = u; c = y }
  pub second : (d : Triangle) → get_or ts (suc k) d ≡ record { a = u; b = v; c = y }
