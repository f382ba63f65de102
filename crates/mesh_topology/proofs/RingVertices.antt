-- Laws of the vertex numbers of a triangle patch. Assumes nothing.
use Prim.Native.Nat.{ℕ, zero, suc, ◌+◌, ◌%◌, ◌<◌}
use mathlib.Core.Path.{◌≡◌, refl, sym, ap, ◌∙◌}
use native.Mathlib.Omega.{arith}
use Rattle.mesh_topology.specs.Sides.{sum}
use Rattle.mesh_topology.specs.Ring.{ring_at}
use Rattle.mesh_topology.specs.RingVertices.{ring_segments, edge_first, ring_size, ring_first, vertex_on}
use Rattle.mesh_topology.proofs.Sums.{sum_within}
use Rattle.mesh_topology.proofs.Ring.{ring_zero, ring_last, ring_before}

-- ---- the rings inside the outer ring are numbered like those of a separate patch, after the outer ring's vertices
module _ (c : ℕ → ℕ) (r : ℕ) where
  pub segments_inside : (j k : ℕ) → ring_segments c (suc (suc r)) (suc j) k ≡ ring_segments (λ _. r) r j k
  segments_inside zero k = omega arith
  segments_inside (suc j) k = omega arith

  pub edge_inside : (j k : ℕ) → edge_first c (suc (suc r)) (suc j) k ≡ edge_first (λ _. r) r j k
  unfolding sum
  edge_inside j zero = refl
  edge_inside j (suc k) = omega (arith, edge_inside j k, segments_inside j k)

  pub first_inside : (j : ℕ) → ring_first c (suc (suc r)) (suc j) ≡ ring_size c (suc (suc r)) 0 + ring_first (λ _. r) r j
  unfolding sum
  first_inside zero = omega arith
  first_inside (suc j) = omega (arith, first_inside j, edge_inside j 3)

-- ---- along the edges of a ring
module _ (c : ℕ → ℕ) (n j : ℕ) where
  -- a vertex before the end of its edge
  pub vertex_before : (k i : ℕ) → k < 3 → i < ring_segments c n j k → vertex_on c n j k i ≡ ring_first c n j + (edge_first c n j k + i)
  vertex_before k i h l = ring_before (ring_first c n j) (ring_size c n j) (edge_first c n j k + i) (sum_within (ring_segments c n j) 3 k i h l)

  -- the end of an edge is the first vertex of the next
  pub vertex_end : (k : ℕ) → k < 3 → vertex_on c n j k (ring_segments c n j k) ≡ vertex_on c n j ((k + 1) % 3) 0
  unfolding sum
  vertex_end zero h = ap (ring_at (ring_first c n j) (ring_size c n j)) (omega arith)
  vertex_end (suc zero) h = ap (ring_at (ring_first c n j) (ring_size c n j)) (omega arith)
  vertex_end (suc (suc zero)) h = ring_last (ring_first c n j) (ring_size c n j) ∙ sym (ring_zero (ring_first c n j) (ring_size c n j))
  vertex_end (suc (suc (suc k))) h = absurd (omega arith)
