-- The points of a triangle patch by vertex number, and their number. Assumes nothing.
use Prim.Native.Nat.{ℕ, zero, suc, ◌+◌, ◌*◌, ◌≤◌, ◌<◌}
use mathlib.Core.Path.{◌≡◌, refl, ◌∙◌}
use native.Mathlib.Omega.{arith}
use native.Mathlib.Nat.{zero-add}
use lib.ListN.{length, length-append, get_or-append}
use Rattle.edge.specs.Table.{table}
use Rattle.mesh_topology.specs.Sides.{sum}
use Rattle.mesh_topology.specs.RingVertices.{edge_first, ring_first}
use Rattle.mesh_topology.proofs.Sums.{sum_within}
use Rattle.mesh_topology.proofs.RingVertices.{edge_inside, first_inside}
use Rattle.mesh_geometry.specs.Cover.{missing}
use Rattle.mesh_geometry.specs.Faces.{at}
use Rattle.mesh_geometry.specs.Edge.{Run, ring}
use Rattle.mesh_geometry.specs.TrianglePoints.{triangle_place, centre, rings}
use Rattle.mesh_geometry.specs.RingPoints.{segments}
use Rattle.mesh_geometry.proofs.Ring.{past, ring_length}
use Rattle.mesh_geometry.proofs.OuterRing.{around_table, ring_at_lem}

-- ---- the points by vertex number
-- how many points the outer ring has
abbrev size : (ℕ → Run) → ℕ
size e = sum (segments e) 3

-- the edges of the next ring
abbrev next : (ℕ → ℕ) → ℕ → ℕ → Run
next q r k = record { q = λ i. q (suc i); c = r }

module _ (d : ℕ) where
  outer_length : (e : ℕ → Run) → length (ring triangle_place 0 (table e 3) d) ≡ size e
  outer_length e = ring_length triangle_place 0 (table e 3) d ∙ around_table 3 e

  pub outer_at : (n : ℕ) (e : ℕ → Run) (q : ℕ → ℕ) (k i : ℕ) → 1 ≤ n → k < 3 → i < (e k).c
      → at (rings (table e 3) d q n) (sum (segments e) k + i) ≡ triangle_place k ((e k).q i) d
  unfolding rings
  outer_at zero e q k i g h l = absurd (omega arith)
  outer_at (suc zero) e q k i g h l = ring_at_lem triangle_place d 3 e 0 k i h l ∙ rw (zero-add k)
  outer_at (suc (suc r)) e q k i g h l =
      get_or-append (ring triangle_place 0 (table e 3) d) _ missing (sum (segments e) k + i)
      (omega (arith, outer_length e, sum_within (segments e) 3 k i h l)) ∙ ring_at_lem triangle_place d 3 e 0 k i h l ∙ rw (zero-add k)

  -- the rest of the list belongs to the rings inside
  inside_at : (r : ℕ) (e : ℕ → Run) (q : ℕ → ℕ) (m m' : ℕ) → m ≡ size e + m'
      → at (rings (table e 3) d q (suc (suc r))) m ≡ at (rings (table (next q r) 3) (q 1) (λ i. q (suc i)) r) m'
  unfolding rings table
  inside_at r e q m m' h = rw h (past (ring triangle_place 0 (table e 3) d) _ (size e) m' (outer_length e))

  inside_length : (r : ℕ) (e : ℕ → Run) (q : ℕ → ℕ)
      → length (rings (table e 3) d q (suc (suc r))) ≡ size e + length (rings (table (next q r) 3) (q 1) (λ i. q (suc i)) r)
  unfolding rings table
  inside_length r e q = simp length-append (omega (arith, outer_length e))

-- point j + 1 + o of edge k of ring j + 1
pub inner_at : (n : ℕ) (e : ℕ → Run) (d : ℕ) (q : ℕ → ℕ) (j k o : ℕ) → k < 3 → o + 2 * suc j < n
    → at (rings (table e 3) d q n) (ring_first (segments e) n (suc j) + (edge_first (segments e) n (suc j) k + o)) ≡ triangle_place k (q (suc (j + o))) (q (suc j))
unfolding sum
inner_at zero e d q j k o h l = absurd (omega arith)
inner_at (suc zero) e d q j k o h l = absurd (omega arith)
inner_at (suc (suc r)) e d q zero k o h l =
    let number : ring_first (segments e) (suc (suc r)) 1 + (edge_first (segments e) (suc (suc r)) 1 k + o) ≡ size e + (sum (segments (next q r)) k + o)
    = omega (arith, first_inside (segments e) r 0, edge_inside (segments e) r 0 k) in
    inside_at d r e q _ _ number ∙ outer_at (q 1) r (next q r) (λ i. q (suc i)) k o (omega arith) h (omega arith) ∙ rw (zero-add o)
inner_at (suc (suc r)) e d q (suc j) k o h l =
    let number : ring_first (segments e) (suc (suc r)) (suc (suc j)) + (edge_first (segments e) (suc (suc r)) (suc (suc j)) k + o)
    ≡ size e + (ring_first (λ _. r) r (suc j) + (edge_first (λ _. r) r (suc j) k + o))
    = omega (arith, first_inside (segments e) r (suc j), edge_inside (segments e) r (suc j) k) in
    let step : suc (j + o) ≡ suc j + o = omega arith in
    inside_at d r e q _ _ number ∙ inner_at r (next q r) (q 1) (λ i. q (suc i)) j k o h (omega arith) ∙ rw step

-- ---- the last points
pub even_end : (n : ℕ) (e : ℕ → Run) (d : ℕ) (q : ℕ → ℕ) (h : ℕ) → n ≡ 2 * h
    → (at (rings (table e 3) d q n) (ring_first (segments e) n h) ≡ centre) × (length (rings (table e 3) d q n) ≡ ring_first (segments e) n h + 1)
unfolding rings sum
even_end zero e d q h g =
    let z : h ≡ 0 = omega arith in
    rw z (refl, refl)
even_end (suc zero) e d q h g = absurd (omega arith)
even_end (suc (suc r)) e d q zero g = absurd (omega arith)
even_end (suc (suc r)) e d q (suc h) g =
    let s = even_end r (next q r) (q 1) (λ i. q (suc i)) h (omega arith) in
    (inside_at d r e q _ _ (first_inside (segments e) r h) ∙ s.0, omega (arith, s.1, inside_length d r e q, first_inside (segments e) r h))

pub odd_end : (n : ℕ) (e : ℕ → Run) (d : ℕ) (q : ℕ → ℕ) (h : ℕ) → n ≡ 2 * h + 1 → length (rings (table e 3) d q n) ≡ ring_first (segments e) n (suc h)
unfolding rings sum
odd_end zero e d q h g = absurd (omega arith)
odd_end (suc zero) e d q h g =
    let z : h ≡ 0 = omega arith in
    rw z (omega (arith, outer_length d e))
odd_end (suc (suc r)) e d q zero g = absurd (omega arith)
odd_end (suc (suc r)) e d q (suc h) g =
    omega (arith, odd_end r (next q r) (q 1) (λ i. q (suc i)) h (omega arith), inside_length d r e q, first_inside (segments e) r (suc h))
