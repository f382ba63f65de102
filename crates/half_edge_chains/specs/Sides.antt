-- The directed sides (half-edges) of a list of triangles by number, three per triangle. Assumes nothing.
use Rattle.std.specs.Prelude.{ℕ, ◌/◌, ◌%◌, ◌<◌, ◌≡◌, Bool, false, ◌&&◌, List, eqb}
use Rattle.strip.specs.declared.triangle.Triangle.{Triangle}
use Rattle.check_searches.specs.Triangles.{triangle_at}
use Rattle.check_faults.specs.Outline.{start_corner, end_of}

-- the vertex where side m starts
unfoldable pub side_start : List Triangle → ℕ → ℕ
side_start ts m = start_corner (triangle_at ts (m / 3)) (m % 3)

-- the vertex where side m ends
unfoldable pub side_end : List Triangle → ℕ → ℕ
side_end ts m = end_of (triangle_at ts (m / 3)) (m % 3)

-- whether side m is x→y
abbrev pub is_side : List Triangle → ℕ → ℕ → ℕ → Bool
is_side ts x y m = eqb (side_start ts m) x && eqb (side_end ts m) y

-- no two of the first n sides are equal
pub record Once (ts : List Triangle) (n : ℕ) : Type 0 where
  pub each : (m : ℕ) → m < n → (i : ℕ) → i < m → is_side ts (side_start ts m) (side_end ts m) i ≡ false
