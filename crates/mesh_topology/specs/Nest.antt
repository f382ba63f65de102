-- The triangles of a triangle patch by vertex number: nested rings, with a band of three strips between each two. Assumes nothing.
use Rattle.std.specs.Prelude.{ℕ, zero, suc, ◌+◌, ◌*◌, ◌≤◌, ◌≡◌, List, [], ◌∷◌, ◌++◌}
use Rattle.strip.specs.declared.triangle.Triangle.{Triangle}
use Rattle.mesh_topology.specs.Ring.{ring_at}
use Rattle.mesh_topology.specs.Band.{from, Edge, band}

-- edge k, of p segments, of the band around a ring whose edges have r segments and whose vertices are numbered from `inner`
abbrev pub ring_edge : ℕ → ℕ → ℕ → ℕ → Edge
ring_edge inner r k p = record { p = p; r = r; line = from (k * r) (ring_at inner (3 * r)) }

-- the three edges of that band, in walk order
abbrev pub ring_edges : ℕ → ℕ → ℕ → ℕ → ℕ → List Edge
ring_edges inner r c0 c1 c2 = ring_edge inner r 0 c0 ∷ ring_edge inner r 1 c1 ∷ ring_edge inner r 2 c2 ∷ []

-- the triangles of a ring with c0, c1 and c2 segments and of all rings inside it, where the inner level gives n: the band to
-- the next ring, then inwards; an innermost ring of one segment per edge is itself a triangle
unfoldable pub nest : ℕ → ℕ → ℕ → ℕ → ℕ → List Triangle
nest base c0 c1 c2 zero = []
nest base c0 c1 c2 (suc zero) = record { a = base; b = base + 1; c = base + 2 } ∷ []
nest base c0 c1 c2 (suc (suc r)) =
    band (ring_at base (c0 + c1 + c2)) (ring_edges (base + (c0 + c1 + c2)) r c0 c1 c2) ++ nest (base + (c0 + c1 + c2)) r r r r

-- the segments c0, c1 and c2 that a ring can have where n is 0, 1 or more
abbrev pub Edges : ℕ → ℕ → ℕ → ℕ → Type 0
Edges c0 c1 c2 zero = (c0 ≡ 0) × (c1 ≡ 0) × (c2 ≡ 0)
Edges c0 c1 c2 (suc zero) = (c0 ≡ 1) × (c1 ≡ 1) × (c2 ≡ 1)
Edges c0 c1 c2 (suc (suc r)) = (1 ≤ c0) × (1 ≤ c1) × (1 ≤ c2)

-- the number of vertices of those rings; for n = 0 there is one vertex, the centre
unfoldable pub nest_vertices : ℕ → ℕ → ℕ → ℕ → ℕ
nest_vertices c0 c1 c2 zero = 1
nest_vertices c0 c1 c2 (suc zero) = 3
nest_vertices c0 c1 c2 (suc (suc r)) = c0 + c1 + c2 + nest_vertices r r r r

-- the number of triangles
unfoldable pub count : ℕ → ℕ → ℕ → ℕ → ℕ
count c0 c1 c2 zero = 0
count c0 c1 c2 (suc zero) = 1
count c0 c1 c2 (suc (suc r)) = c0 + c1 + c2 + 3 * r + count r r r r
