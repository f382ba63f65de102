-- 23.6 and 23.7: the vertices along the outer edges, each edge's end included.
-- Assumes nothing.
use Prim.Native.Nat.{ℕ, zero, suc, ◌+◌, ◌≤◌, ◌<◌}
use mathlib.Core.Path.{◌≡◌, ap, sym, ◌∙◌}
use mathlib.Core.List.{List}
use native.Mathlib.Omega.{arith}
use native.Mathlib.Decide.{dec_le}
use Rattle.edge.specs.Table.{table}
use Rattle.mesh_topology.specs.Sides.{sum}
use Rattle.mesh_topology.specs.Ring.{ring_at}
use Rattle.mesh_topology.proofs.Ring.{ring_zero, ring_last, ring_before}
use Rattle.mesh_topology.proofs.Sums.{sum_within}
use Rattle.mesh_geometry.specs.declared.Point.{Point}
use Rattle.mesh_geometry.specs.Faces.{at}
use Rattle.mesh_geometry.specs.Edge.{Run, GoodRun, ring}
use Rattle.mesh_geometry.specs.Domain.{Domain, triangle, square, edge_count, place_on}
use Rattle.mesh_geometry.specs.OnEdge.{OnEdge}
use Rattle.mesh_geometry.specs.OuterRing.{edge_start}
use Rattle.mesh_geometry.specs.RingPoints.{segments}
use Rattle.mesh_geometry.proofs.Edge.{good_some, good_to}
use Rattle.mesh_geometry.proofs.OuterRing.{outer_exactly}

-- the end of an edge is the start of the next one
edge_turn : (shape : Domain) (k : ℕ) (p : Point) → suc k < edge_count shape → OnEdge shape (suc k) 0 p → OnEdge shape k 65536 p
edge_turn triangle zero p h o = omega arith
edge_turn triangle (suc zero) p h o = omega arith
edge_turn triangle (suc (suc k)) p h o = absurd (omega arith)
edge_turn square zero p h o = omega arith
edge_turn square (suc zero) p h o = omega arith
edge_turn square (suc (suc zero)) p h o = omega arith
edge_turn square (suc (suc (suc k))) p h o = absurd (omega arith)

edge_close : (shape : Domain) (k : ℕ) (p : Point) → suc k ≡ edge_count shape → OnEdge shape 0 0 p → OnEdge shape k 65536 p
edge_close triangle zero p h o = absurd (omega arith)
edge_close triangle (suc zero) p h o = absurd (omega arith)
edge_close triangle (suc (suc k)) p h o = omega arith
edge_close square zero p h o = absurd (omega arith)
edge_close square (suc zero) p h o = absurd (omega arith)
edge_close square (suc (suc zero)) p h o = absurd (omega arith)
edge_close square (suc (suc (suc k))) p h o = omega arith

module _ (shape : Domain) (e : ℕ → Run) (good : (k : ℕ) → GoodRun (e k)) (ps : List Point)
    (before : (k i : ℕ) → k < edge_count shape → i < (e k).c → OnEdge shape k ((e k).q i) (at ps (edge_start e k + i))) where
  abbrev total : ℕ
  total = sum (segments e) (edge_count shape)

  -- the number of a vertex before an edge's end
  inner_number : (k i : ℕ) → k < edge_count shape → i < (e k).c → ring_at 0 total (sum (segments e) k + i) ≡ edge_start e k + i
  inner_number k i h l = ring_before 0 total (sum (segments e) k + i) (sum_within (segments e) (edge_count shape) k i h l) ∙ omega arith

  edge_start_lem : (k : ℕ) → k < edge_count shape → OnEdge shape k 0 (at ps (ring_at 0 total (sum (segments e) k + 0)))
  edge_start_lem k h = rw (inner_number k 0 h (good_some (good k))) (rw (good k).first at (before k 0 h (good_some (good k))))

  edge_end : (k : ℕ) → k < edge_count shape → OnEdge shape k 65536 (at ps (ring_at 0 total (sum (segments e) k + (e k).c)))
  unfolding sum
  edge_end k h = elim (dec_le (suc (suc k)) (edge_count shape)) [
    | yes l ↦
        let z : sum (segments e) k + (e k).c + 0 ≡ sum (segments e) k + (e k).c = omega arith in
        edge_turn shape k _ l (rw z at (edge_start_lem (suc k) l))
    | no l ↦
        let n : suc k ≡ edge_count shape = omega arith in
        let z : sum (segments e) k + (e k).c ≡ total = ap (sum (segments e)) n in
        let first : ring_at 0 total total ≡ ring_at 0 total (0 + 0) = ring_last 0 total ∙ sym (ring_zero 0 total) in
        edge_close shape k _ n (rw (z, first) (edge_start_lem 0 (omega arith)))
  ]

  pub whole_edge_lem : (k i : ℕ) → k < edge_count shape → i ≤ (e k).c → OnEdge shape k ((e k).q i) (at ps (ring_at 0 total (sum (segments e) k + i)))
  whole_edge_lem k i h l = elim (dec_le (suc i) (e k).c) [
    | yes m ↦ rw (inner_number k i h m) (before k i h m)
    | no m ↦
        let z : i ≡ (e k).c = omega arith in
        rw (z, (good k).last) (edge_end k h)
  ]

-- a ring of outer edges alone
pub ring_whole_edge : (shape : Domain) (e : ℕ → Run) (good : (k : ℕ) → GoodRun (e k)) (ps : List Point) → ps ≡ ring (place_on shape) 0 (table e (edge_count shape)) 0
    → (k i : ℕ) → k < edge_count shape → i ≤ (e k).c → OnEdge shape k ((e k).q i) (at ps (ring_at 0 (sum (segments e) (edge_count shape)) (sum (segments e) k + i)))
ring_whole_edge shape e good ps h =
    whole_edge_lem shape e good ps ((outer_exactly shape e (λ k i l. good_to (good k) i (omega arith)) ps).0 h).point
