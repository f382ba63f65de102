-- The triangles of a quad patch are those that document 01 lists, strip by strip and cell by cell. Assumes nothing.
use Prim.Native.Nat.{ℕ, suc, ◌+◌, ◌-◌}
use mathlib.Core.Path.{◌≡◌, refl, ap₂, fun_ext}
use mathlib.Core.List.{◌++◌, append_assoc, append-nil}
use native.Mathlib.Omega.{arith}
use Rattle.strip.specs.Strips.{strip}
use Rattle.mesh_topology.specs.Sides.{sum}
use Rattle.mesh_topology.specs.Ring.{ring_at}
use Rattle.mesh_topology.specs.Band.{from, band_from, band}
use Rattle.mesh_topology.specs.Quad.{grid_at, cell, joined_lists, cells, grid_edges, quad}
use Rattle.mesh_topology.specs.GridStrips.{outline_on, grid_on, nearest_line, nearest_segments, grid_strip, cell_on, cells_on, grid_strips}
use Rattle.mesh_topology.proofs.Joined.{joined_same}

-- lines with the same vertices have the same strip
same_strip : {A A' B B' : ℕ → ℕ} (p r : ℕ) → ((i : ℕ) → A i ≡ A' i) → ((i : ℕ) → B i ≡ B' i) → strip A B p r ≡ strip A' B' p r
same_strip p r f g = λ i. strip (fun_ext f i) (fun_ext g i) p r

module _ (c : ℕ → ℕ) (n : ℕ) where
  abbrev total : ℕ
  total = 0 + (c 0 + c 1 + c 2 + c 3)

  -- the vertices of the grid by row and column
  abbrev P : ℕ → ℕ → ℕ
  P = grid_at total (n - 1)

  grid_vertex : (r s x y : ℕ) → x - 1 ≡ r → y - 1 ≡ s → P r s ≡ grid_on c n x y
  unfolding grid_at sum
  grid_vertex r s x y h k = rw (h, k) (omega arith)

  -- the vertices of the outline from number o on
  outline_vertex : (k o : ℕ) → sum c k ≡ o → (i : ℕ) → from o (ring_at 0 (c 0 + c 1 + c 2 + c 3)) i ≡ outline_on c k i
  unfolding sum
  outline_vertex k o h i =
      let t : c 0 + c 1 + c 2 + c 3 ≡ sum c 4 = omega arith in
      rw (h, t)

  same_cell : (r s : ℕ) → cell P r s ≡ cell_on c n (r + 1) (s + 1)
  same_cell r s =
      let here = grid_vertex r s (r + 1) (s + 1) (omega arith) (omega arith) in
      let right = grid_vertex r (suc s) (r + 1) (s + 1 + 1) (omega arith) (omega arith) in
      let up = grid_vertex (suc r) s (r + 1 + 1) (s + 1) (omega arith) (omega arith) in
      let across = grid_vertex (suc r) (suc s) (r + 1 + 1) (s + 1 + 1) (omega arith) (omega arith) in
      rw (here, right, up, across)

  module _ (m : ℕ) where
    same_cells : cells P (m - 2) (n - 2) ≡ cells_on c m n
    same_cells = joined_same _ _ (m - 2) (λ r. joined_same _ _ (n - 2) (same_cell r))

    strip_at : (k o r : ℕ) (line : ℕ → ℕ) → sum c k ≡ o → r ≡ nearest_segments m n k → ((i : ℕ) → line i ≡ nearest_line c m n k i)
        → strip (from o (ring_at 0 (c 0 + c 1 + c 2 + c 3))) line (c k) r ≡ grid_strip c m n k
    strip_at k o r line h e g = rw e (same_strip (c k) (nearest_segments m n k) (outline_vertex k o h) g)

    same_band : band (ring_at 0 (c 0 + c 1 + c 2 + c 3)) (grid_edges P (m - 2) (n - 2) (c 0) (c 1) (c 2) (c 3)) ≡ joined_lists (grid_strip c m n) 4
    unfolding band_from joined_lists sum
    same_band =
        let a = strip_at 0 0 (m - 2) (λ k. P (m - 2 - k) 0) refl refl (λ i. grid_vertex _ _ (m - 1 - i) 1 (omega arith) refl) in
        let b = strip_at 1 (0 + c 0) (n - 2) (λ k. P 0 k) refl refl (λ i. grid_vertex _ _ 1 (1 + i) refl (omega arith)) in
        let d = strip_at 2 (0 + c 0 + c 1) (m - 2) (λ k. P k (n - 2)) refl refl (λ i. grid_vertex _ _ (1 + i) (n - 1) (omega arith) (omega arith)) in
        let e = strip_at 3 (0 + c 0 + c 1 + c 2) (n - 2) (λ k. P (m - 2) (n - 2 - k)) refl refl (λ i. grid_vertex _ _ (m - 1) (n - 1 - i) (omega arith) (omega arith)) in
        rw (a, b, d, e) (simp (append_assoc, append-nil))

-- the triangles of a quad patch are the four strips in walk order, each to the nearest line of the grid, then the cells
pub quad_exactly : (c : ℕ → ℕ) (m n : ℕ) → quad 0 (c 0) (c 1) (c 2) (c 3) m n ≡ grid_strips c m n
unfolding quad
quad_exactly c m n = ap₂ (λ s t. s ++ t) (same_band c n m) (same_cells c n m)
