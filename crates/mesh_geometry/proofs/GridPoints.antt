-- The points of a quad patch are exactly those that document 01 lists. Assumes nothing.
use Prim.Native.Nat.{ℕ, suc, ◌+◌, ◌-◌, ◌*◌, ◌≤◌, ◌<◌}
use mathlib.Core.Path.{◌≡◌, sym, ◌∙◌}
use mathlib.Core.Logic.{◌↔◌}
use mathlib.Core.List.{List}
use native.Mathlib.Omega.{arith}
use native.Mathlib.Decide.{dec_le}
use native.Mathlib.Nat.{zero-add}
use lib.ListN.{length, length-append, get_or-append}
use lib.Seq.{ext_get_or}
use Rattle.edge.specs.Table.{table}
use Rattle.mesh_topology.specs.GridStrips.{grid_on}
use Rattle.mesh_topology.proofs.Sums.{sum_constant, sum_within}
use Rattle.mesh_geometry.specs.declared.Point.{Point}
use Rattle.mesh_geometry.specs.Cover.{missing}
use Rattle.mesh_geometry.specs.Faces.{at}
use Rattle.mesh_geometry.specs.Edge.{Run, ring}
use Rattle.mesh_geometry.specs.QuadPoints.{quad_place, inner, quad_patch}
use Rattle.mesh_geometry.specs.Domain.{square}
use Rattle.mesh_geometry.specs.OnEdge.{OnSquare}
use Rattle.mesh_geometry.specs.OuterRing.{edge_start}
use Rattle.mesh_geometry.specs.RingPoints.{segments}
use Rattle.mesh_geometry.specs.GridPoints.{GridPoints}
use Rattle.mesh_geometry.proofs.Ring.{past, ring_length}
use Rattle.mesh_geometry.proofs.Grid.{grid_length, grid_at_lem}
use Rattle.mesh_geometry.proofs.Located.{located}
use Rattle.mesh_geometry.proofs.OnEdge.{on_edge, same_on_edge}
use Rattle.mesh_geometry.proofs.OuterRing.{around_table, ring_at_lem}

-- ---- two lists of these points are equal
module _ {e : ℕ → Run} {rows columns : Run} {ps ps' : List Point} (a : GridPoints e rows columns ps) (b : GridPoints e rows columns ps') where
  same_outer : (m : ℕ) → m < edge_start e 4 → at ps m ≡ at ps' m
  same_outer m h =
      let s = located (λ k. (e k).c) 4 m h in
      rw (← s.is) (same_on_edge square s.k _ _ _ (a.outer s.k s.i s.list s.within) (b.outer s.k s.i s.list s.within))

  same_inner : (m : ℕ) → m < (rows.c - 1) * (columns.c - 1) → at ps (edge_start e 4 + m) ≡ at ps' (edge_start e 4 + m)
  same_inner m h =
      let w = columns.c - 1 in
      let s = located (λ _. w) (rows.c - 1) m (omega (arith, sum_constant w (rows.c - 1))) in
      let r = suc s.k in
      let c = suc s.i in
      let row : r - 1 ≡ s.k = omega arith in
      let number : m ≡ (r - 1) * w + (c - 1) = rw row (omega (arith, s.is, sum_constant w s.k)) in
      rw number (a.inner r c (omega arith) (omega (arith, s.list)) (omega arith) (omega (arith, s.within))
      ∙ sym (b.inner r c (omega arith) (omega (arith, s.list)) (omega arith) (omega (arith, s.within))))

  grid_only : ps ≡ ps'
  grid_only = ext_get_or missing ps ps' (a.size ∙ sym b.size) (λ m l. elim (dec_le (suc m) (edge_start e 4)) [
    | yes k ↦ same_outer m k
    | no k ↦ let z : m ≡ edge_start e 4 + (m - edge_start e 4) = omega arith in rw z (same_inner (m - edge_start e 4) (omega (arith, a.size)))
  ])

-- ---- `quad_patch` is such a list
module _ (e : ℕ → Run) (rows columns : Run) (on : (k i : ℕ) → i < (e k).c → (e k).q i ≤ 65536) where
  abbrev listed : List Point
  listed = quad_patch (e 0) (e 1) (e 2) (e 3) rows columns

  outer_length : length (ring quad_place 0 (table e 4) 0) ≡ edge_start e 4
  outer_length = ring_length quad_place 0 (table e 4) 0 ∙ around_table 4 e

  outer_listed : (k i : ℕ) → k < 4 → i < (e k).c → OnSquare k ((e k).q i) (at listed (edge_start e k + i))
  unfolding table
  outer_listed k i h l =
      let place : at listed (edge_start e k + i) ≡ quad_place k ((e k).q i) 0 =
      get_or-append (ring quad_place 0 (table e 4) 0) _ missing (edge_start e k + i) (omega (arith, outer_length, sum_within (segments e) 4 k i h l))
      ∙ ring_at_lem quad_place 0 4 e 0 k i h l ∙ rw (zero-add k) in
      rw place (on_edge square k ((e k).q i) h (on k i l))

  inner_listed : (r c : ℕ) → 1 ≤ r → r < rows.c → 1 ≤ c → c < columns.c
      → at listed (grid_on (segments e) columns.c r c) ≡ record { u = columns.q c; v = rows.q r; w = 0 }
  unfolding table
  inner_listed r c u v x y =
      let row : suc (r - 1) ≡ r = omega arith in
      let column : suc (c - 1) ≡ c = omega arith in
      past (ring quad_place 0 (table e 4) 0) _ (edge_start e 4) ((r - 1) * (columns.c - 1) + (c - 1)) outer_length
      ∙ grid_at_lem (inner rows columns) (rows.c - 1) (columns.c - 1) (r - 1) (c - 1) (omega arith) (omega arith) ∙ rw (row, column)

  grid_listed : GridPoints e rows columns listed
  unfolding table
  grid_listed = record {
    size = length-append (ring quad_place 0 (table e 4) 0) _ ∙ rw (outer_length, grid_length (inner rows columns) (rows.c - 1) (columns.c - 1));
    outer = outer_listed;
    inner = inner_listed;
  }

  -- a list is that of the patch exactly if its points are those of the outline and the grid
  pub grid_exactly : (ps : List Point) → (ps ≡ quad_patch (e 0) (e 1) (e 2) (e 3) rows columns) ↔ GridPoints e rows columns ps
  grid_exactly ps = (λ h. rw h grid_listed, λ h. grid_only h grid_listed)
