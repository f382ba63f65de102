-- The points of a ring of outer edges are exactly those that document 01 lists. Assumes nothing.
use Prim.Native.Nat.{ℕ, zero, suc, ◌+◌, ◌≤◌, ◌<◌}
use mathlib.Core.Path.{◌≡◌, refl, sym, ◌∙◌}
use mathlib.Core.Logic.{◌↔◌}
use mathlib.Core.List.{List}
use native.Mathlib.Omega.{arith}
use native.Mathlib.Nat.{zero-add, add-zero}
use lib.Seq.{ext_get_or}
use Rattle.edge.specs.Table.{table}
use Rattle.edge.proofs.Table.{length_table}
use Rattle.mesh_topology.specs.Sides.{sum}
use Rattle.mesh_topology.proofs.Sums.{sum_first}
use Rattle.mesh_geometry.specs.declared.Point.{Point}
use Rattle.mesh_geometry.specs.Cover.{missing}
use Rattle.mesh_geometry.specs.Faces.{at}
use Rattle.mesh_geometry.specs.Edge.{Run, around, ring}
use Rattle.mesh_geometry.specs.Domain.{Domain, edge_count, place_on}
use Rattle.mesh_geometry.specs.OuterRing.{edge_start, OuterRing}
use Rattle.mesh_geometry.proofs.Ring.{table_at, past, ring_length}
use Rattle.mesh_geometry.proofs.Located.{located}
use Rattle.mesh_geometry.proofs.OnEdge.{on_edge, same_on_edge}

-- ---- the points of a ring by number
pub around_table : (n : ℕ) (e : ℕ → Run) → around (table e n) ≡ edge_start e n
unfolding table sum
around_table zero e = refl
around_table (suc n) e = omega (arith, sum_first (λ k. (e k).c) n, around_table n (λ k. e (suc k)))

pub ring_at_lem : (place : ℕ → ℕ → ℕ → Point) (d n : ℕ) (e : ℕ → Run) (j k i : ℕ) → k < n → i < (e k).c
    → at (ring place j (table e n) d) (edge_start e k + i) ≡ place (j + k) ((e k).q i) d
unfolding ring table sum
ring_at_lem place d zero e j k i h l = absurd (omega arith)
ring_at_lem place d (suc n) e j zero i h l =
    rw (zero-add i, add-zero j) (table_at (λ m. place j ((e 0).q m) d) (e 0).c (ring place (suc j) (table (λ m. e (suc m)) n) d) i l)
ring_at_lem place d (suc n) e j (suc k) i h l =
    let number : sum (λ m. (e m).c) k + (e k).c + i ≡ (e 0).c + (edge_start (λ m. e (suc m)) k + i) = omega (arith, sum_first (λ m. (e m).c) k) in
    let edge : suc j + k ≡ j + suc k = omega arith in
    rw (number, ← edge) (past (table (λ m. place j ((e 0).q m) d) (e 0).c) (ring place (suc j) (table (λ m. e (suc m)) n) d) (e 0).c
    (edge_start (λ m. e (suc m)) k + i) (length_table (λ m. place j ((e 0).q m) d) (e 0).c) ∙ ring_at_lem place d n (λ m. e (suc m)) (suc j) k i (omega arith) l)

module _ (shape : Domain) (e : ℕ → Run) where
  -- two lists of these points are equal
  outer_only : {ps ps' : List Point} → OuterRing shape e ps → OuterRing shape e ps' → ps ≡ ps'
  outer_only {ps} {ps'} a b = ext_get_or missing ps ps' (a.size ∙ sym b.size) (λ m h.
      let s = located (λ k. (e k).c) (edge_count shape) m (omega (arith, a.size)) in
      rw (← s.is) (same_on_edge shape s.k ((e s.k).q s.i) _ _ (a.point s.k s.i s.list s.within) (b.point s.k s.i s.list s.within)))

  -- all places lie on their edges
  module _ (on : (k i : ℕ) → i < (e k).c → (e k).q i ≤ 65536) where
    abbrev listed : List Point
    listed = ring (place_on shape) 0 (table e (edge_count shape)) 0

    outer_listed : OuterRing shape e listed
    outer_listed = record {
      size = ring_length (place_on shape) 0 (table e (edge_count shape)) 0 ∙ around_table (edge_count shape) e;
      point = λ k i h l. rw (ring_at_lem (place_on shape) 0 (edge_count shape) e 0 k i h l, zero-add k) (on_edge shape k ((e k).q i) h (on k i l));
    }

    -- a list is that of the ring exactly if its points are those of the edges
    pub outer_exactly : (ps : List Point) → (ps ≡ ring (place_on shape) 0 (table e (edge_count shape)) 0) ↔ OuterRing shape e ps
    outer_exactly ps = (λ h. rw h outer_listed, λ h. outer_only h outer_listed)
