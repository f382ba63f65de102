-- Every triangle of a quad patch has the positive orientation. Assumes nothing.
use Prim.Native.Nat.{ℕ, zero, suc, ◌+◌, ◌-◌, ◌≤◌, ◌<◌}
use mathlib.Core.Path.{◌≡◌, refl, ◌∙◌}
use mathlib.Core.List.{List, [], ◌∷◌, ◌++◌}
use native.Mathlib.Omega.{arith}
use Rattle.strip.specs.declared.triangle.Triangle.{Triangle}
use Rattle.mesh_topology.specs.Band.{band}
use Rattle.mesh_topology.specs.Quad.{cell, joined_lists, cells, grid_edges}
use Rattle.mesh_geometry.specs.declared.Point.{Point}
use Rattle.mesh_geometry.specs.Edge.{Run, GoodRun}
use Rattle.mesh_geometry.specs.QuadPoints.{quad_place, inner}
use Rattle.mesh_geometry.proofs.Lists.{All, none, more, all_append}
use Rattle.mesh_geometry.proofs.Edge.{good_between, good_to}
use Rattle.mesh_geometry.proofs.Frame.{rise}
use Rattle.mesh_geometry.proofs.StripTurns.{Turns, Line, done, along, band_turns}
use Rattle.mesh_geometry.proofs.Shape.{same_point}
use Rattle.mesh_geometry.proofs.Lines.{Lines}
use Rattle.mesh_geometry.proofs.QuadPlace.{QuadFits, square}

pub joined_all : (Q : Triangle → Type 0) (L : ℕ → List Triangle) (n : ℕ) → ((k : ℕ) → k < n → All Q (L k)) → All Q (joined_lists L n)
unfolding joined_lists
joined_all Q L zero h = none
joined_all Q L (suc n) h = all_append _ (joined_all Q L n (λ k l. h k (omega arith))) (h n (omega arith))

-- the inner places mirror
back : {e : Run} → GoodRun e → (i j : ℕ) → i + j + 2 ≡ e.c → e.q (suc j) ≡ 65536 - e.q (suc i)
back {e} g i j h = let z : suc j ≡ e.c - suc i = omega arith in rw z (omega (arith, g.mirrors (suc i) (omega arith)))

-- the vertices N r c are the points of the inner grid
module _ (P : ℕ → Point) (rows columns : Run) (gr : GoodRun rows) (gc : GoodRun columns)
    (hr : 2 ≤ rows.c) (hc : 2 ≤ columns.c) (N : ℕ → ℕ → ℕ)
    (is : (r c : ℕ) → r ≤ rows.c - 2 → c ≤ columns.c - 2 → P (N r c) ≡ inner rows columns r c) where
  cell_turns : (r c : ℕ) → r < rows.c - 2 → c < columns.c - 2 → All (Turns P) (cell N r c)
  cell_turns r c u v =
      let d = rise (columns.q (suc c)) (columns.q (suc (suc c))) (rows.q (suc r)) (rows.q (suc (suc r)))
      (gc.rises (suc c) (omega arith)) (gr.rises (suc r) (omega arith)) in
      let p = is r c (omega arith) (omega arith) in
      let q = is (suc r) (suc c) u v in
      let lower : Turns P (record { a = N r c; b = N r (suc c); c = N (suc r) (suc c) }) =
      rw (p, is r (suc c) (omega arith) v, q) (omega arith) in
      let upper : Turns P (record { a = N r c; b = N (suc r) (suc c); c = N (suc r) c }) =
      rw (p, q, is (suc r) c u (omega arith)) (omega arith) in
      more lower (more upper none)

  cells_turn : All (Turns P) (cells N (rows.c - 2) (columns.c - 2))
  cells_turn = joined_all _ _ _ (λ r u. joined_all _ _ _ (λ c v. cell_turns r c u v))

  -- a line of inner points at the places of e, d units inside edge k
  inner_line : (k : ℕ) (e : Run) (d : ℕ) (row column : ℕ → ℕ) → GoodRun e → d < 65536
      → ((i : ℕ) → i ≤ e.c - 2 → (row i ≤ rows.c - 2) × (column i ≤ columns.c - 2))
      → ((i : ℕ) → i ≤ e.c - 2 → inner rows columns (row i) (column i) ≡ quad_place k (e.q (suc i)) d)
      → 2 ≤ e.c → Line QuadFits (quad_place k) P (λ i. N (row i) (column i)) (λ i. e.q (suc i)) (e.c - 2) d
  inner_line k e d row column g h on at two = record {
    drawn = λ i l. is (row i) (column i) (on i l).0 (on i l).1 ∙ at i l;
    fits = λ i l. omega (arith, good_to g (suc i) (omega arith));
    rises = λ i l. g.rises (suc i) (omega arith);
  }

  pub quad_turns : (e0 e1 e2 e3 : Run) (F : ℕ → ℕ) → Lines square P F 0 0 0 (e0 ∷ e1 ∷ e2 ∷ e3 ∷ [])
      → All (Turns P)
      (band F (grid_edges N (rows.c - 2) (columns.c - 2) e0.c e1.c e2.c e3.c) ++ cells N (rows.c - 2) (columns.c - 2))
  quad_turns e0 e1 e2 e3 F l =
      let a = rows.c - 2 in
      let b = columns.c - 2 in
      let r = good_between gr 1 (omega arith) (omega arith) in
      let c = good_between gc 1 (omega arith) (omega arith) in
      all_append _
      (band_turns square.frame P F 0
      (along c.0 l.0 (inner_line 0 rows (columns.q 1) (λ i. a - i) (λ i. 0) gr c.1 (λ i h. omega arith)
      (λ i h. same_point _ _ refl (back gr i (a - i) (omega arith)) refl) hr)
      (along r.0 l.1.0 (inner_line 1 columns (rows.q 1) (λ i. 0) (λ i. i) gc r.1 (λ i h. omega arith) (λ i h. refl) hc)
      (along c.0 l.1.1.0 (inner_line 2 rows (columns.q 1) (λ i. i) (λ i. b) gr c.1 (λ i h. omega arith)
      (λ i h. same_point _ _ (back gc 0 b (omega arith)) refl refl) hr)
      (along r.0 l.1.1.1.0 (inner_line 3 columns (rows.q 1) (λ i. a) (λ i. b - i) gc r.1 (λ i h. omega arith)
      (λ i h. same_point _ _ (back gc i (b - i) (omega arith)) (back gr 0 a (omega arith)) refl) hc) done)))))
      cells_turn
