-- The rings of a triangle patch whose places are in a list. Assumes nothing.
use Rattle.std.specs.Prelude.{ℕ, suc, ◌+◌, ◌-◌, ◌*◌, ◌%◌, ◌≤◌, ◌<◌, ◌≡◌, List, [], ◌∷◌, length, get_or}
use Rattle.mesh_geometry.specs.declared.Point.{Point}
use Rattle.mesh_geometry.specs.Edge.{ring}
use Rattle.mesh_geometry.specs.TrianglePoints.{triangle_place, alike, rings}
use Rattle.vertices.specs.Rows.{place_in, listed}

-- a ring whose three edges have the same places; the first place is its depth
abbrev pub ring_points : List ℕ → List Point
ring_points row = ring triangle_place 0 (listed row ∷ listed row ∷ listed row ∷ []) (place_in row 0)

-- that ring and all rings inside it; the list has the places of its edges, their ends included
abbrev pub rings_of : List ℕ → List Point
rings_of row = rings (alike (place_in row) (length row - 1)) (place_in row 0) (place_in row) (length row - 1)

-- the places of a ring's edges: at least one, rising, and mirrored
pub record Inward (row : List ℕ) : Type 0 where
  pub some : 0 < length row
  pub rises : (i : ℕ) → suc i < length row → place_in row i < place_in row (suc i)
  pub mirrors : (i : ℕ) → i < length row → place_in row i + place_in row (length row - 1 - i) ≡ 65536

-- the three words of point i of a list, counted from word `from` on, plus p, q and r modulo 2^32
abbrev pub sums : List ℕ → ℕ → ℕ → ℕ → ℕ → ℕ → List ℕ
sums base from p q r i =
    ((get_or base (from + 3 * i) 0 + p) % 4294967296) ∷ ((get_or base (from + 3 * i + 1) 0 + q) % 4294967296) ∷ ((get_or base (from + 3 * i + 2) 0 + r) % 4294967296) ∷ []

-- from word `from` on the lists hold the points of the outline at the places of a row: `base` those of edge 0, `other` those of edge 1
pub record Laid (base other : List ℕ) (from : ℕ) (row : List ℕ) : Type 0 where
  pub room : from + 3 * length row ≤ length base
  pub other_room : from + 3 * length row ≤ length other
  pub opposite : (i : ℕ) → i < length row → get_or base (from + 3 * i) 0 ≡ 0
  pub start : (i : ℕ) → i < length row → get_or base (from + 3 * i + 1) 0 ≡ 196608 - 3 * place_in row i
  pub end : (i : ℕ) → i < length row → get_or base (from + 3 * i + 2) 0 ≡ 3 * place_in row i
  pub other_end : (i : ℕ) → i < length row → get_or other (from + 3 * i) 0 ≡ 3 * place_in row i
  pub other_opposite : (i : ℕ) → i < length row → get_or other (from + 3 * i + 1) 0 ≡ 0
  pub other_start : (i : ℕ) → i < length row → get_or other (from + 3 * i + 2) 0 ≡ 196608 - 3 * place_in row i
