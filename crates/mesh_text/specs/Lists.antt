-- The text of points and indices in two lists. Assumes nothing.
use Rattle.std.specs.Prelude.{ℕ, ◌*◌, ◌/◌, ◌≤◌, List, ◌++◌}
use Rattle.decimal_text.specs.Heads.{drawn_line}
use Rattle.decimal_text.specs.Lines.{rows}

-- the lines of P points and I indices: the counts, a line per point, a line per primitive of `width` indices
abbrev pub list_text : ℕ → List ℕ → List ℕ → ℕ → ℕ → List ℕ
list_text width vertices indices P I = drawn_line P I ++ rows 3 vertices 0 P ++ rows width indices 0 (I / width)

-- lists of v and i words hold P points and I indices
pub record HoldsMesh (width v i P I : ℕ) : Type 0 where
  pub some : 1 ≤ width
  pub most : width ≤ 3
  pub vertices : 3 * P ≤ v
  pub indices : I ≤ i
