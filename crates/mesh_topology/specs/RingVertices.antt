-- The vertex numbers of a triangle patch: ring by ring, edge by edge, each edge without its end. c 0, c 1 and c 2 are the
-- segments of the outer edges, n those of the inner level. Assumes nothing.
use Rattle.std.specs.Prelude.{ℕ, zero, suc, ◌+◌, ◌-◌, ◌*◌}
use Rattle.mesh_topology.specs.Sides.{sum}
use Rattle.mesh_topology.specs.Ring.{ring_at}

-- the segments of edge k of ring j: c k on the outer ring, ring 0, and n − 2j on ring j
abbrev pub ring_segments : (ℕ → ℕ) → ℕ → ℕ → ℕ → ℕ
ring_segments c n zero k = c k
ring_segments c n (suc j) k = n - 2 * suc j

-- how many vertices of ring j come before edge k
abbrev pub edge_first : (ℕ → ℕ) → ℕ → ℕ → ℕ → ℕ
edge_first c n j k = sum (ring_segments c n j) k

-- how many vertices ring j has
abbrev pub ring_size : (ℕ → ℕ) → ℕ → ℕ → ℕ
ring_size c n j = edge_first c n j 3

-- how many vertices come before ring j, which is the number of its first vertex
abbrev pub ring_first : (ℕ → ℕ) → ℕ → ℕ → ℕ
ring_first c n j = sum (ring_size c n) j

-- the vertex i segments along edge k of ring j; the end of an edge is the first vertex of the next, and the last edge ends at
-- the ring's first vertex
abbrev pub vertex_on : (ℕ → ℕ) → ℕ → ℕ → ℕ → ℕ → ℕ
vertex_on c n j k i = ring_at (ring_first c n j) (ring_size c n j) (edge_first c n j k + i)
