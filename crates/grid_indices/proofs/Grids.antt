-- The lines along the border of a grid, and the words of its cells. Assumes nothing.
use Prim.Native.Nat.{ℕ, zero, suc, ◌+◌, ◌-◌, ◌*◌, ◌%◌, ◌≤◌, ◌<◌}
use mathlib.Core.Path.{◌≡◌, refl, sym, ap, ◌∙◌}
use mathlib.Core.Bool.{Bool, true, false}
use mathlib.Core.List.{List, [], ◌∷◌, ◌++◌}
use native.Mathlib.Nat.{add-mul, suc-mul, mul_assoc, mul_comm, mul-le-mul_right, zero-add, zero-mul}
use native.Mathlib.Omega.{arith}
use lib.ListN.{length}
use Rattle.buffer.specs.Over.{flat}
use Rattle.buffer.proofs.Laws.{flat_length, flat_last, flat_same}
use Rattle.strip.specs.declared.triangle.Triangle.{Triangle}
use Rattle.strip.specs.Lines.{vertex_along}
use Rattle.strip.specs.Triangles.{indices}
use Rattle.strip.proofs.Lines.{along_line}
use Rattle.strip.proofs.Strips.{indices_length, indices_append}
use Rattle.mesh_topology.specs.Quad.{grid_at, cell, joined_lists, cells}
use Rattle.grid_indices.specs.declared.grid.Grid.{Grid}
use Rattle.grid_indices.specs.Grids.{cell_words, row_words}
use Rattle.shifted_copies.specs.Copies.{shifted}
use Rattle.shifted_copies.proofs.Shifts.{flat_shifted, flat_below}

module _ (g : Grid) where
  -- the first column downwards: the step counts down modulo 65536
  pub follows_left : (i : ℕ) → i ≤ g.a → vertex_along (g.start + g.a * g.width) (65536 - g.width) g.a g.start i ≡ grid_at g.start g.width (g.a - i) 0
  unfolding grid_at
  follows_left =
      along_line (g.start + g.a * g.width) (65536 - g.width) g.a g.start (λ k. grid_at g.start g.width (g.a - k) 0)
      (λ i h.
      let rows : (g.a - i + i) * g.width ≡ g.a * g.width = ap (λ (k : ℕ). k * g.width) (omega arith) in
      let down : (65536 - g.width + g.width) * i ≡ 65536 * i = ap (λ (k : ℕ). k * i) (omega arith) in
      omega (arith, rows, down, add-mul (g.a - i) i g.width, add-mul (65536 - g.width) g.width i, mul_comm g.width i))
      (let none : (g.a - g.a) * g.width ≡ 0 * g.width = ap (λ (k : ℕ). k * g.width) (omega arith) in omega arith)

  pub follows_bottom : (i : ℕ) → i ≤ g.b → vertex_along g.start 1 g.b (g.start + g.b) i ≡ grid_at g.start g.width 0 i
  unfolding grid_at
  follows_bottom =
      along_line g.start 1 g.b (g.start + g.b) (λ k. grid_at g.start g.width 0 k) (λ i h. omega arith) (omega arith)

  pub follows_right : (i : ℕ) → i ≤ g.a → vertex_along (g.start + g.b) g.width g.a (g.start + g.b + g.a * g.width) i ≡ grid_at g.start g.width i g.b
  unfolding grid_at
  follows_right =
      along_line (g.start + g.b) g.width g.a (g.start + g.b + g.a * g.width) (λ k. grid_at g.start g.width k g.b)
      (λ i h. let below : i ≤ g.a = omega arith in omega (arith, mul_comm g.width i, mul-le-mul_right g.width below)) (omega arith)

  pub follows_top : (i : ℕ) → i ≤ g.b → vertex_along (g.start + g.a * g.width + g.b) 65535 g.b (g.start + g.a * g.width) i ≡ grid_at g.start g.width g.a (g.b - i)
  unfolding grid_at
  follows_top =
      along_line (g.start + g.a * g.width + g.b) 65535 g.b (g.start + g.a * g.width) (λ k. grid_at g.start g.width g.a (g.b - k))
      (λ i h. omega arith) (omega arith)

-- ---- the index words of cells
pub cell_length : (positive : Bool) (p q : ℕ) → length (cell_words positive p q) ≡ 6
cell_length positive p q = indices_length positive (record { a = p; b = p + 1; c = q + 1 } ∷ record { a = p; b = q + 1; c = q } ∷ [])

pub row_length : (positive : Bool) (first width b : ℕ) → length (row_words positive first width b) ≡ 6 * b
unfolding row_words
row_length positive first width b =
    flat_length (λ c. cell_words positive (first + c) (first + c + width)) 6 0 b (λ c. cell_length positive (first + c) (first + c + width))

-- joined lists of triangles
joined_words : (positive : Bool) (L : ℕ → List Triangle) (n : ℕ) → indices positive (joined_lists L n) ≡ flat (λ i. indices positive (L i)) 0 n
unfolding joined_lists indices flat
joined_words positive L zero = refl
joined_words positive L (suc n) =
    indices_append positive (joined_lists L n) (L n) ∙ ap (λ (l : List ℕ). l ++ indices positive (L n)) (joined_words positive L n)
    ∙ ap (λ (k : ℕ). flat (λ i. indices positive (L i)) 0 n ++ indices positive (L k)) (sym (zero-add n)) ∙ sym (flat_last (λ i. indices positive (L i)) 0 n)

module _ (positive : Bool) (start width b : ℕ) where
  -- row r of the cells
  abbrev pub grid_row : ℕ → List ℕ
  grid_row r = row_words positive (start + r * width) width b

  pub grid_length : (a : ℕ) → length (flat grid_row 0 a) ≡ 6 * (a * b)
  grid_length a =
      omega (arith, flat_length grid_row (6 * b) 0 a (λ r. row_length positive (start + r * width) width b), mul_assoc 6 b a, mul_comm a b)

  cell_numbers : (r c : ℕ) → indices positive (cell (grid_at start width) r c) ≡ cell_words positive (start + r * width + c) (start + r * width + c + width)
  unfolding grid_at
  cell_numbers r c =
      let right : start + r * width + suc c ≡ start + r * width + c + 1 = omega arith in
      let above : start + suc r * width + c ≡ start + r * width + c + width = omega (arith, suc-mul r width) in
      let beyond : start + suc r * width + suc c ≡ start + r * width + c + width + 1 = omega (arith, suc-mul r width) in
      rw (right, above, beyond)

  pub cells_words : (a : ℕ) → indices positive (cells (grid_at start width) a b) ≡ flat grid_row 0 a
  unfolding row_words
  cells_words a =
      joined_words positive (λ r. joined_lists (cell (grid_at start width) r) b) a
      ∙ flat_same (λ r. indices positive (joined_lists (cell (grid_at start width) r) b)) grid_row 0 a
      (λ r. joined_words positive (cell (grid_at start width) r) b
      ∙ flat_same (λ c. indices positive (cell (grid_at start width) r c)) (λ c. cell_words positive (start + r * width + c) (start + r * width + c + width)) 0 b (cell_numbers r))

-- a grid with cells has rows
pub some_rows : (a b : ℕ) → 10 ≤ a * b → 1 ≤ a
some_rows zero b h = absurd (omega (arith, zero-mul b))
some_rows (suc a) b h = omega arith

-- ---- a later row is the same row, shifted
cell_shifted : (positive : Bool) (p q p' q' d : ℕ) → p + d ≡ p' → q + d ≡ q' → p' < 65535 → q' < 65535 → shifted d (cell_words positive p q) ≡ cell_words positive p' q'
unfolding indices shifted
cell_shifted true p q p' q' d e f h k =
    let a : (p + d) % 65536 ≡ p' = omega arith in
    let b : (p + 1 + d) % 65536 ≡ p' + 1 = omega arith in
    let c : (q + 1 + d) % 65536 ≡ q' + 1 = omega arith in
    let u : (q + d) % 65536 ≡ q' = omega arith in
    rw (a, b, c, u)
cell_shifted false p q p' q' d e f h k =
    let a : (p + d) % 65536 ≡ p' = omega arith in
    let b : (p + 1 + d) % 65536 ≡ p' + 1 = omega arith in
    let c : (q + 1 + d) % 65536 ≡ q' + 1 = omega arith in
    let u : (q + d) % 65536 ≡ q' = omega arith in
    rw (a, b, c, u)

pub row_shifted : (positive : Bool) (first width b d : ℕ) → first + d + width + b < 65535 → shifted d (row_words positive first width b) ≡ row_words positive (first + d) width b
unfolding row_words
row_shifted positive first width b d h =
    flat_shifted d (λ c. cell_words positive (first + c) (first + c + width)) 0 b
    ∙ flat_below (λ c. shifted d (cell_words positive (first + c) (first + c + width))) (λ c. cell_words positive (first + d + c) (first + d + c + width)) 0 b
    (λ c l. cell_shifted positive (first + c) (first + c + width) (first + d + c) (first + d + c + width) d (omega arith) (omega arith) (omega arith) (omega arith))
