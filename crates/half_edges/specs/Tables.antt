-- A table of sides, as far as any form of it goes: `holds ts n table` says that it holds the first n sides. Assumes nothing.
use Rattle.std.specs.Prelude.{ℕ, ◌*◌, ◌≤◌, ◌<◌, ◌≡◌, List, length}
use Rattle.strip.specs.declared.triangle.Triangle.{Triangle}
use Rattle.half_edge_chains.specs.Sides.{side_start, side_end, Once}

-- how many vertices and sides a table has room for, and the names of the lists that it was lent to write to; a table in memory of its
-- own was lent none
pub record Extent : Type 0 where
  pub vertices : ℕ
  pub sides : ℕ
  pub lists : List ℕ

-- side m goes from x to y, and both are among the first `vertices` vertices
pub record SideAt (ts : List Triangle) (vertices m x y : ℕ) : Type 0 where
  pub start : x ≡ side_start ts m
  pub end : y ≡ side_end ts m
  pub start_fits : x < vertices
  pub end_fits : y < vertices

-- the table holds the first n sides, and no two of these sides are equal
pub record FilledTable {T : Type 0} (holds : List Triangle → ℕ → T → Type 0) (ts : List Triangle) (n : ℕ) (t : T) : Type 0 where
  pub table : holds ts n t
  pub once : Once ts n

-- no two sides of the first n triangles are equal; if these are all triangles, the table holds all sides
pub record FilledTo {T : Type 0} (holds : List Triangle → ℕ → T → Type 0) (ts : List Triangle) (n : ℕ) (t : T) : Type 0 where
  pub most : n ≤ length ts
  pub once : Once ts (n * 3)
  pub all : n ≡ length ts → FilledTable holds ts (length ts * 3) t
