-- A quad patch whose rows are those of its edges: its outline, and its inside. Assumes nothing.
use Prim.Native.Nat.{ℕ, suc, ◌+◌, ◌-◌, ◌*◌, ◌≤◌}
use mathlib.Core.Path.{◌≡◌, refl, ap}
use mathlib.Core.List.{List, [], ◌∷◌}
use native.Mathlib.Omega.{arith}
use lib.ListN.{length}
use Rattle.buffer.specs.Over.{Wrote}
use Rattle.level.specs.declared.Segments.{Segments}
use Rattle.level.specs.Segments.{Valid}
use Rattle.mesh_geometry.specs.Edge.{Run, along}
use Rattle.mesh_geometry.specs.QuadPoints.{quad_place, inner, quad_patch}
use Rattle.mesh_geometry.specs.Segmented.{run}
use Rattle.mesh_geometry.specs.Words.{vertex_words}
use Rattle.mesh_geometry.proofs.Shape.{same_point}
use Rattle.vertices.specs.Rows.{whole_edge, GoodRow, AllValid}
use Rattle.vertices.proofs.Parts.{Parts, wrote_same}
use Rattle.vertices.proofs.Rows.{grid_same, none, more, ring_same, along_at, along_same, good_row}
use Rattle.quad_point_rows.specs.Parts.{quad_outline, quad_inside}

-- the patch is its outline, then its inside
pub quad_parts : (e0 e1 e2 e3 rows columns : Segments) (xs : List ℕ) (at : ℕ)
    → at + 3 * length (quad_patch (run e0) (run e1) (run e2) (run e3) (run rows) (run columns)) ≤ length xs
    → Parts (quad_patch (run e0) (run e1) (run e2) (run e3) (run rows) (run columns)) (quad_outline (run e0) (run e1) (run e2) (run e3))
    (quad_inside (run rows) (run columns)) xs at
quad_parts e0 e1 e2 e3 rows columns xs at room = record { is = refl; room = room }

-- facts of the six edges, taken apart and put together
pub first_four : {A B C D E : Type 0} → A × (B × (C × (D × E))) → A × (B × (C × D))
first_four v = (v.0, (v.1.0, (v.1.1.0, v.1.1.1.0)))

pub all_valid : (e0 e1 e2 e3 rows columns : Segments)
    → Valid e0.count e0.scaled × Valid e1.count e1.scaled × Valid e2.count e2.scaled × Valid e3.count e3.scaled
    → Valid rows.count rows.scaled × Valid columns.count columns.scaled
    → AllValid (e0 ∷ e1 ∷ e2 ∷ e3 ∷ rows ∷ columns ∷ [])
all_valid e0 e1 e2 e3 rows columns v w = (v.0, (v.1, (v.2, (v.3, w))))

-- ---- the outline
outline_are : (e0 e1 e2 e3 : Run) {x0 x1 x2 x3 : List ℕ} → x0 ≡ along e0 → x1 ≡ along e1 → x2 ≡ along e2 → x3 ≡ along e3
    → quad_outline (whole_edge x0) (whole_edge x1) (whole_edge x2) (whole_edge x3) ≡ quad_outline e0 e1 e2 e3
outline_are e0 e1 e2 e3 h0 h1 h2 h3 =
    rw (h0, h1, h2, h3) (ring_same quad_place 0 0 (more (along_same e0) (more (along_same e1) (more (along_same e2) (more (along_same e3) none)))))

module _ (e0 e1 e2 e3 : Segments) {x0 x1 x2 x3 : List ℕ} (h0 : x0 ≡ along (run e0)) (h1 : x1 ≡ along (run e1)) (h2 : x2 ≡ along (run e2)) (h3 : x3 ≡ along (run e3)) where
  outline_same : quad_outline (whole_edge x0) (whole_edge x1) (whole_edge x2) (whole_edge x3) ≡ quad_outline (run e0) (run e1) (run e2) (run e3)
  outline_same = outline_are (run e0) (run e1) (run e2) (run e3) h0 h1 h2 h3

  -- the rows are good, and there is room for the points
  pub outline_ready : AllValid (e0 ∷ e1 ∷ e2 ∷ e3 ∷ []) → (out : List ℕ) (at : ℕ) → at + 3 * length (quad_outline (run e0) (run e1) (run e2) (run e3)) ≤ length out
      → (GoodRow x0 × GoodRow x1 × GoodRow x2 × GoodRow x3) × (at + 3 * length (quad_outline (whole_edge x0) (whole_edge x1) (whole_edge x2) (whole_edge x3)) ≤ length out)
  outline_ready v out at room =
      ((good_row e0 v.0 h0, good_row e1 v.1.0 h1, good_row e2 v.1.1.0 h2, good_row e3 v.1.1.1 h3), omega (arith, ap length outline_same))

  pub outline_written : {out out' : List ℕ} {at w : ℕ} → Wrote out at (vertex_words (quad_outline (whole_edge x0) (whole_edge x1) (whole_edge x2) (whole_edge x3))) out' w
      → Wrote out at (vertex_words (quad_outline (run e0) (run e1) (run e2) (run e3))) out' w
  outline_written = wrote_same outline_same

-- ---- the inside
inside_are : (rows columns : Run) {xs ys : List ℕ} → xs ≡ along rows → ys ≡ along columns → quad_inside (whole_edge xs) (whole_edge ys) ≡ quad_inside rows columns
inside_are rows columns h k =
    let m = (along_same rows).count in
    let n = (along_same columns).count in
    rw (h, k, m, n)
    (grid_same (inner (whole_edge (along rows)) (whole_edge (along columns))) (inner rows columns) (rows.c - 1) (columns.c - 1)
    (λ r c l k. same_point _ _ (along_at columns (suc c) (omega arith)) (along_at rows (suc r) (omega arith)) refl))

module _ (rows columns : Segments) {xs ys : List ℕ} (h : xs ≡ along (run rows)) (k : ys ≡ along (run columns)) where
  inside_same : quad_inside (whole_edge xs) (whole_edge ys) ≡ quad_inside (run rows) (run columns)
  inside_same = inside_are (run rows) (run columns) h k

  pub inside_ready : Valid rows.count rows.scaled × Valid columns.count columns.scaled → (out : List ℕ) (at : ℕ) → at + 3 * length (quad_inside (run rows) (run columns)) ≤ length out
      → (GoodRow xs × GoodRow ys) × (at + 3 * length (quad_inside (whole_edge xs) (whole_edge ys)) ≤ length out)
  inside_ready v out at room = ((good_row rows v.0 h, good_row columns v.1 k), omega (arith, ap length inside_same))

  pub inside_written : {out out' : List ℕ} {at w : ℕ} → Wrote out at (vertex_words (quad_inside (whole_edge xs) (whole_edge ys))) out' w
      → Wrote out at (vertex_words (quad_inside (run rows) (run columns))) out' w
  inside_written = wrote_same inside_same
