-- Isolines whose places are in rows. Assumes nothing.
use Prim.Native.Nat.{ℕ, suc, ◌+◌, ◌-◌, ◌*◌, ◌≤◌}
use mathlib.Core.Path.{◌≡◌, refl, ap, ◌∙◌}
use mathlib.Core.List.{List, [], ◌∷◌}
use native.Mathlib.Omega.{arith}
use lib.ListN.{length, take, length-take}
use lib.Seq.{get_or-take}
use Rattle.buffer.specs.Over.{Wrote}
use Rattle.level.specs.declared.Segments.{Segments}
use Rattle.level.specs.Segments.{Valid}
use Rattle.edge_table.specs.Stored.{rows_to}
use Rattle.edge_table.proofs.StoredRows.{row_stored}
use Rattle.mesh_geometry.specs.Edge.{Run, along}
use Rattle.mesh_geometry.specs.Segmented.{run, isoline_points}
use Rattle.mesh_geometry.specs.Words.{vertex_words}
use Rattle.mesh_geometry.proofs.Shape.{same_point}
use Rattle.vertices.specs.Rows.{place_in, whole_edge, GoodRow, AllValid}
use Rattle.vertices.specs.Grids.{crossing, grid_points}
use Rattle.vertices.proofs.Parts.{wrote_same}
use Rattle.vertices.proofs.Rows.{grid_same, along_at, along_same, good_row}
use Rattle.isoline_points.specs.Equal.{IsEqual, StoredIfEqual, MostEqual}

-- all rows but the last
pub lines_are : (lines columns : List ℕ) (n : ℕ) → n ≡ length lines - 1 → 1 ≤ length columns
    → grid_points (take n lines) columns ≡ isoline_points (whole_edge lines) (whole_edge columns)
lines_are lines columns n e h =
    let m : length (take n lines) ≡ n = length-take n lines ∙ omega arith in
    let w : suc (length columns - 1) ≡ length columns = omega arith in
    rw (m, ← e, w)
    (grid_same (crossing (take n lines) columns) (λ r c. record { u = place_in columns c; v = place_in lines r; w = 0 }) n (length columns)
    (λ r c l k. same_point _ _ refl (get_or-take n lines r 0 l) refl))

-- rows that are the rows of edges
isolines_are : (lines columns : Run) {xs ys : List ℕ} → xs ≡ along lines → ys ≡ along columns
    → isoline_points (whole_edge xs) (whole_edge ys) ≡ isoline_points lines columns
isolines_are lines columns h k =
    rw (h, k, (along_same lines).count, (along_same columns).count)
    (grid_same (λ r c. record { u = place_in (along columns) c; v = place_in (along lines) r; w = 0 }) (λ r c. record { u = columns.q c; v = lines.q r; w = 0 })
    lines.c (suc columns.c) (λ r c l m. same_point _ _ (along_at columns c (omega arith)) (along_at lines r (omega arith)) refl))

module _ (lines columns : Segments) {xs ys : List ℕ} (h : xs ≡ along (run lines)) (k : ys ≡ along (run columns)) where
  same : isoline_points (whole_edge xs) (whole_edge ys) ≡ isoline_points (run lines) (run columns)
  same = isolines_are (run lines) (run columns) h k

  -- they are good rows, and there is room for what they give
  pub rows_ready : AllValid (lines ∷ columns ∷ []) → (out : List ℕ) (at : ℕ) → at + 3 * length (isoline_points (run lines) (run columns)) ≤ length out
      → (GoodRow xs × GoodRow ys) × (at + 3 * length (isoline_points (whole_edge xs) (whole_edge ys)) ≤ length out)
  rows_ready v out at room = ((good_row lines v.0 h, good_row columns v.1 k), omega (arith, ap length same))

  pub rows_written : {out out' : List ℕ} {at w : ℕ} → Wrote out at (vertex_words (isoline_points (whole_edge xs) (whole_edge ys))) out' w
      → Wrote out at (vertex_words (isoline_points (run lines) (run columns))) out' w
  rows_written = wrote_same same

-- the table's first m rows have the row of an edge of equal spacing, if that has at most m segments
stored_if_equal : (m : ℕ) {rows : List ℕ} → rows ≡ rows_to m → (s : Segments) → Valid s.count s.scaled → (IsEqual s → s.count ≤ m) → StoredIfEqual rows s
stored_if_equal m e s v few q = rw (e, q) (row_stored m s.count v.some (few q))

pub both_stored : (m : ℕ) {rows : List ℕ} → rows ≡ rows_to m → (lines columns : Segments) → AllValid (lines ∷ columns ∷ []) → {r w : ℕ} → MostEqual 0 lines r → MostEqual r columns w → w ≤ m
    → StoredIfEqual rows lines × StoredIfEqual rows columns
both_stored m e lines columns v a b k =
    (stored_if_equal m e lines v.0 (λ q. omega (arith, a.own q, b.past)), stored_if_equal m e columns v.1 (λ q. omega (arith, b.own q)))
