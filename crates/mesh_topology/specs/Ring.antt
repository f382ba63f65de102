-- A closed ring of vertices with consecutive numbers. Assumes nothing.
use Rattle.std.specs.Prelude.{ℕ, ◌+◌, cond, eqb}
use Rattle.mesh_topology.specs.Sides.{hit, line_sum}

-- the number of vertex k of a ring of `total` vertices, numbered from `base`; vertex `total` is vertex 0 again
unfoldable pub ring_at : ℕ → ℕ → ℕ → ℕ
ring_at base total k = base + cond (eqb k total) 0 k

-- the sum of a weight over the ring's segments
abbrev pub ring_sum : (ℕ → ℕ → ℕ) → ℕ → ℕ → ℕ
ring_sum f base total = line_sum f (ring_at base total) total

-- how often x→y is a segment of the ring
abbrev pub ring_side : ℕ → ℕ → ℕ → ℕ → ℕ
ring_side base total x y = ring_sum (hit x y) base total
