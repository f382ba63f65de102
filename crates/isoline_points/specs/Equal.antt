-- Edges of equal spacing, and the rows of the table that they need. Assumes nothing.
use Rattle.std.specs.Prelude.{ℕ, ◌*◌, ◌≤◌, ◌≡◌, List}
use Rattle.level.specs.declared.Segments.{Segments}
use Rattle.vertices.specs.Rows.{Stored}

-- the edge has equal spacing: L = 65,536 n
abbrev pub IsEqual : Segments → Type 0
IsEqual s = s.scaled ≡ 65536 * s.count

-- the row of the edge is in the table, if the edge has equal spacing
abbrev pub StoredIfEqual : List ℕ → Segments → Type 0
StoredIfEqual rows s = IsEqual s → Stored rows s

-- r is at least `before`, and at least the segments of s if that has equal spacing
pub record MostEqual (before : ℕ) (s : Segments) (r : ℕ) : Type 0 where
  pub past : before ≤ r
  pub own : IsEqual s → s.count ≤ r
  pub few : before ≤ 64 → r ≤ 64
