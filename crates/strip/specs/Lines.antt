-- The vertices along one line of a strip. Assumes nothing.
use Rattle.std.specs.Prelude.{ℕ, ◌+◌, ◌*◌, ◌%◌, ◌≤◌, ◌≡◌, cond, eqb}
use Rattle.strip.specs.declared.line.Line.{Line}

-- the number of the vertex at point i of a line of n segments from `first` on, each `step` further, whose last point is `last`
unfoldable pub vertex_along : ℕ → ℕ → ℕ → ℕ → ℕ → ℕ
vertex_along first step n last i = cond (eqb i n) last ((first + step * i) % 65536)

-- the number of the vertex at point i of a line
abbrev pub vertex : Line → ℕ → ℕ
vertex l i = vertex_along l.first l.step l.count l.last i

-- the line has n segments, and its vertices are F 0 to F n
pub record Follows (l : Line) (F : ℕ → ℕ) (n : ℕ) : Type 0 where
  pub count : l.count ≡ n
  pub at : (i : ℕ) → i ≤ n → vertex l i ≡ F i
