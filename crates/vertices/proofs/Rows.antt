-- Rows of places: what a writer reads in part of a row, and that the row of an edge has the edge's places. Assumes nothing.
use Prim.Native.Nat.{ℕ, zero, suc, ◌-◌, ◌≤◌, ◌<◌}
use mathlib.Core.Path.{◌≡◌, refl, ap, ◌∙◌}
use mathlib.Core.List.{List, [], ◌∷◌}
use native.Mathlib.Omega.{arith}
use lib.ListN.{length, take, length-take}
use lib.Seq.{get_or-take}
use Rattle.level.specs.declared.Segments.{Segments}
use Rattle.level.specs.Segments.{Valid}
use Rattle.edge.specs.Table.{table}
use Rattle.edge.proofs.Table.{length_table, get_table}
use Rattle.mesh_geometry.specs.declared.Point.{Point}
use Rattle.mesh_geometry.specs.Edge.{Run, ring, along}
use Rattle.mesh_geometry.specs.Segmented.{run}
use Rattle.mesh_geometry.specs.QuadPoints.{grid}
use Rattle.mesh_geometry.proofs.Edge.{good_to}
use Rattle.mesh_geometry.proofs.Positions.{good_positions}
use Rattle.vertices.specs.Rows.{place_in, listed, whole_edge, ClearOfEnds, GoodRow}

-- tables, and grids, that agree up to their size
pub table_same : {A : Type 0} (f g : ℕ → A) (n : ℕ) → ((i : ℕ) → i < n → f i ≡ g i) → table f n ≡ table g n
unfolding table
table_same f g zero h = refl
table_same f g (suc n) h = rw (h 0 (omega arith), table_same (λ i. f (suc i)) (λ i. g (suc i)) n (λ i l. h (suc i) (omega arith)))

pub grid_same : (P Q : ℕ → ℕ → Point) (m n : ℕ) → ((r c : ℕ) → r < m → c < n → P r c ≡ Q r c) → grid P m n ≡ grid Q m n
unfolding grid
grid_same P Q zero n h = refl
grid_same P Q (suc m) n h =
    rw (
      table_same (P 0) (Q 0) n (λ c l. h 0 c (omega arith) l),
      grid_same (λ r. P (suc r)) (λ r. Q (suc r)) m n (λ r c l k. h (suc r) c (omega arith) k),
    )

-- edges with equally many segments and the same points, except the end
pub record Same (e f : Run) : Type 0 where
  pub count : e.c ≡ f.c
  pub at : (i : ℕ) → i < f.c → e.q i ≡ f.q i

pub data AllSame : List Run → List Run → Type 0 where
  none : AllSame [] []
  more : {e f : Run} {es fs : List Run} → Same e f → AllSame es fs → AllSame (e ∷ es) (f ∷ fs)

pub ring_same : (place : ℕ → ℕ → ℕ → Point) (k d : ℕ) {es fs : List Run} → AllSame es fs → ring place k es d ≡ ring place k fs d
unfolding ring
ring_same place k d none = refl
ring_same place k d (more {e = e} {f = f} s t) =
    let edge : table (λ i. place k (e.q i) d) e.c ≡ table (λ i. place k (f.q i) d) f.c =
    rw s.count (table_same (λ i. place k (e.q i) d) (λ i. place k (f.q i) d) f.c (λ i l. ap (λ x. place k x d) (s.at i l))) in
    rw (edge, ring_same place (suc k) d t)

-- a good row has an interior and two ends
module _ {row : List ℕ} (g : GoodRow row) where
  pub row_some : 1 ≤ length row
  row_some = omega (arith, g.some)

  pub row_more : 1 ≤ length row - 1
  row_more = omega (arith, g.some)

-- a row without its end, as the writers take it
abbrev pub front : List ℕ → List ℕ
front row = take (length row - 1 - 0) row

pub front_size : (row : List ℕ) → length row - 1 - 0 ≡ length row - 1
front_size row = omega arith

module _ (row : List ℕ) (n : ℕ) (e : n ≡ length row - 1) where
  pub front_length : length (take n row) ≡ n
  front_length = length-take n row ∙ omega arith

  pub front_same : Same (listed (take n row)) (whole_edge row)
  front_same = record { count = front_length ∙ e; at = λ i l. get_or-take n row i 0 (omega arith) }

  pub front_clear : GoodRow row → ClearOfEnds 0 (listed (take n row))
  front_clear g i l =
      let m : i < n = omega (arith, front_length) in
      omega (arith, get_or-take n row i 0 m, good_to g.good i (omega arith))

-- the row of an edge
module _ (e : Run) where
  pub along_length : length (along e) ≡ suc e.c
  along_length = length_table e.q (suc e.c)

  pub along_at : (i : ℕ) → i ≤ e.c → place_in (along e) i ≡ e.q i
  along_at i l = get_table e.q (suc e.c) 0 i (omega arith)

  pub along_same : Same (whole_edge (along e)) e
  along_same = record { count = omega (arith, along_length); at = λ i l. along_at i (omega arith) }

pub good_row : (s : Segments) → Valid s.count s.scaled → {row : List ℕ} → row ≡ along (run s) → GoodRow row
good_row s v h =
    let e = run s in
    let g = good_positions s.count s.scaled v in
    let n : length (along e) - 1 ≡ e.c = (along_same e).count in
    rw h (record {
      some = omega (arith, along_length e, v.some);
      good = rw n (record {
        first = along_at e 0 (omega arith) ∙ g.first;
        last = along_at e e.c (omega arith) ∙ g.last;
        rises = λ i l. omega (arith, along_at e i (omega arith), along_at e (suc i) (omega arith), g.rises i l);
        mirrors = λ i l. omega (arith, along_at e i l, along_at e (e.c - i) (omega arith), g.mirrors i l);
      });
    })
