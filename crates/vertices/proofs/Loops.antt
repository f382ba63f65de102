-- The invariants of the loops that write points, and rows of points. Assumes nothing.
use Prim.Native.Nat.{ℕ, ◌+◌, ◌*◌, ◌≤◌, ◌<◌}
use mathlib.Core.Path.{◌≡◌, refl, subst}
use mathlib.Core.List.{List}
use native.Mathlib.Omega.{arith}
use borrow.Author.Rules.{rules}
use lib.ListN.{length}
use Rattle.buffer.specs.Over.{Wrote}
use Rattle.buffer.proofs.Laws.{Counting, count_start, count_fits, count_room, count_step, count_done, flat_length}
use Rattle.edge.specs.Table.{table}
use Rattle.mesh_geometry.specs.declared.Point.{Point}
use Rattle.mesh_geometry.specs.QuadPoints.{grid}
use Rattle.mesh_geometry.specs.Words.{coordinate_words, vertex_words}
use Rattle.vertices.specs.Rows.{place_in, listed, ClearOfEnds}
use Rattle.vertices.proofs.Words.{words_table, words_grid, table_words}

-- ---- a loop that writes the points f 0, f 1, .. f (n - 1)
abbrev pub Points : (ℕ → Point) → ℕ → ℕ → List ℕ → ℕ → List ℕ → ℕ → Type 0
Points f i n out w xs at = Counting (λ k. coordinate_words (f k)) i n out w xs at

pub points_start : (f : ℕ → Point) {n : ℕ} {xs : List ℕ} {at : ℕ} → at + 3 * n ≤ length xs → Points f 0 n xs at xs at
points_start f {n} h = count_start (omega (arith, flat_length (λ k. coordinate_words (f k)) 3 0 n (λ k. refl)))

pub points_fits : {f : ℕ → Point} {i n : ℕ} {out : List ℕ} {w : ℕ} {xs : List ℕ} {at : ℕ} → Points f i n out w xs at → i < n → w + 3 ≤ length out
points_fits c h = count_room c h (λ j. refl)

pub points_step : {f : ℕ → Point} {p : Point} {i n : ℕ} {out out' : List ℕ} {w w' : ℕ} {xs : List ℕ} {at : ℕ} → i < n → p ≡ f i
    → Wrote out w (coordinate_words p) out' w' → Points f i n out w xs at → Points f (i + 1) n out' w' xs at
points_step {out = out} {out' = out'} {w = w} {w' = w'} h e p c =
    count_step h (subst (λ (q : Point). Wrote out w (coordinate_words q) out' w') e p) c

pub points_done : (f : ℕ → Point) {i n : ℕ} {out : List ℕ} {w : ℕ} {xs : List ℕ} {at : ℕ} → n ≤ i → Points f i n out w xs at
    → Wrote xs at (vertex_words (table f n)) out w
points_done f {n = n} h c = rw (words_table f n) (count_done h c)

-- the places of a clear edge that the loop writes
module _ (d i : ℕ) (row : List ℕ) (c : ClearOfEnds d (listed row)) (h : i < length row) where
  pub clear_low : d ≤ place_in row i
  clear_low = (c i h).0

  pub clear_high : place_in row i + d ≤ 65536
  clear_high = (c i h).1

  pub clear_most : place_in row i ≤ 65536
  clear_most = omega (arith, clear_high)

-- all facts that the needs of such a loop use
pub ruleset points = (points_start, points_fits, points_step, points_done, clear_low, clear_high, clear_most, rules)

-- ---- a loop that writes h rows of n points each, P 0 0, P 0 1, .. P 1 0, ..
abbrev pub Rows : (ℕ → ℕ → Point) → ℕ → ℕ → ℕ → List ℕ → ℕ → List ℕ → ℕ → Type 0
Rows P n i h out w xs at = Counting (λ r. vertex_words (table (P r) n)) i h out w xs at

pub rows_start : (P : ℕ → ℕ → Point) (n : ℕ) {h : ℕ} {xs : List ℕ} {at : ℕ} → at + 3 * (h * n) ≤ length xs → Rows P n 0 h xs at xs at
rows_start P n {h} l =
    count_start (omega (arith, flat_length (λ r. vertex_words (table (P r) n)) (3 * n) 0 h (λ r. table_words (P r) n)))

pub rows_fits : (P : ℕ → ℕ → Point) (n : ℕ) {i h : ℕ} {out : List ℕ} {w : ℕ} {xs : List ℕ} {at : ℕ} → i < h → Rows P n i h out w xs at
    → w + 3 * n ≤ length out
rows_fits P n {i} l c = omega (arith, count_fits l c, table_words (P i) n)

pub rows_done : (P : ℕ → ℕ → Point) (n : ℕ) {i h : ℕ} {out : List ℕ} {w : ℕ} {xs : List ℕ} {at : ℕ} → h ≤ i → Rows P n i h out w xs at
    → Wrote xs at (vertex_words (grid P h n)) out w
rows_done P n {h = h} l c = rw (words_grid P h n) (count_done l c)
