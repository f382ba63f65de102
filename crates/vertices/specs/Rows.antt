-- Edges whose places are in a list. Assumes nothing.
use Rattle.std.specs.Prelude.{ℕ, ◌+◌, ◌-◌, ◌≤◌, ◌<◌, List, [], ◌∷◌, length, get_or}
use Rattle.edge.specs.Rows.{RowAt}
use Rattle.edge_table.specs.Stored.{row_start, Widest}
use Rattle.level.specs.declared.Segments.{Segments}
use Rattle.level.specs.Segments.{Valid}
use Rattle.mesh_geometry.specs.Edge.{Run, GoodRun}

-- q of a list: entry i is the place of point i
abbrev pub place_in : List ℕ → ℕ → ℕ
place_in row i = get_or row i 0

-- the edge with the list's places, where the list lacks the end's
abbrev pub listed : List ℕ → Run
listed row = record { q = place_in row; c = length row }

-- the edge with the list's places, the end's included
abbrev pub whole_edge : List ℕ → Run
whole_edge row = record { q = place_in row; c = length row - 1 }

-- all points of the edge but its end lie at least d units from both ends of a length of 65,536
abbrev pub ClearOfEnds : ℕ → Run → Type 0
ClearOfEnds d e = (i : ℕ) → i < e.c → (d ≤ e.q i) × (e.q i + d ≤ 65536)

-- the row of an edge with at least one segment and good places
pub record GoodRow (row : List ℕ) : Type 0 where
  pub some : 2 ≤ length row
  pub good : GoodRun (whole_edge row)

-- the row of the edge is in the table of equal spacing, of which `rows` is all or the first part
abbrev pub Stored : List ℕ → Segments → Type 0
Stored rows s = RowAt rows (row_start s.count) s.count s.scaled

-- every edge has valid n and L
abbrev pub AllValid : List Segments → Type 0
AllValid [] = Unit {0}
AllValid (s ∷ []) = Valid s.count s.scaled
AllValid (s ∷ t ∷ ss) = Valid s.count s.scaled × AllValid (t ∷ ss)

-- the row of every edge is in `rows`
abbrev pub AllStored : List ℕ → List Segments → Type 0
AllStored rows [] = Unit {0}
AllStored rows (s ∷ []) = Stored rows s
AllStored rows (s ∷ t ∷ ss) = Stored rows s × AllStored rows (t ∷ ss)

-- the widest edge so far: `before` is that of earlier edges, and the last number that of all
pub data Widths : ℕ → List Segments → ℕ → Type 0 where
  last : {before r : ℕ} {s : Segments} → Widest before s r → Widths before (s ∷ []) r
  then : {before r end : ℕ} {s : Segments} {ss : List Segments} → Widest before s r → Widths r ss end → Widths before (s ∷ ss) end
