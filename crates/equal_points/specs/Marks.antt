-- A table of marks, one per slot: which earlier points can equal a point. Assumes nothing.
use Rattle.std.specs.Prelude.{ℕ, ◌+◌, ◌-◌, ◌<◌, ◌≡◌, false, List, ◌⊎◌, get_or}
use Rattle.mesh_geometry.specs.declared.Point.{Point}
use Rattle.mesh_geometry.specs.Faces.{at}
use Rattle.check_searches.specs.Points.{same_point}
use Rattle.point_table.specs.Trees.{slot_of}

-- the mark of slot s, of n slots, after the first j points: it is i + 1 if point i alone has the slot, or 65535 if several points may have it
pub record Names (ps : List Point) (n j s mark : ℕ) : Type 0 where
  pub each : (i : ℕ) → i < j → slot_of n (at ps i) ≡ s → (mark ≡ i + 1) ⊎ (mark ≡ 65535)

-- the marks of all n slots after the first j points
pub record Marks (ps : List Point) (n j : ℕ) (ms : List ℕ) : Type 0 where
  pub each : (i : ℕ) → i < j → (get_or ms (slot_of n (at ps i)) 0 ≡ i + 1) ⊎ (get_or ms (slot_of n (at ps i)) 0 ≡ 65535)

-- the mark names no point, or one that does not equal p
abbrev pub NamesNoEqual : List Point → ℕ → Point → Type 0
NamesNoEqual ps mark p = (mark ≡ 0) ⊎ ((mark < 65535) × (same_point (at ps (mark - 1)) p ≡ false))

-- r is the slot's new mark after point j, where `mark` was the old one
abbrev pub NewMark : ℕ → ℕ → ℕ → Type 0
NewMark mark j r = (r ≡ 65535) ⊎ ((mark ≡ 0) × (r ≡ j + 1))
