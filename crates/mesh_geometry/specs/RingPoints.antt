-- The points of a triangle patch as document 01 lists them, ring by ring, each by its vertex number. Assumes nothing.
use Rattle.std.specs.Prelude.{ℕ, suc, ◌+◌, ◌-◌, ◌*◌, ◌≤◌, ◌<◌, ◌≡◌, List, length}
use Rattle.mesh_topology.specs.RingVertices.{ring_first, vertex_on}
use Rattle.mesh_geometry.specs.declared.Point.{Point}
use Rattle.mesh_geometry.specs.Edge.{Run}
use Rattle.mesh_geometry.specs.Faces.{at}
use Rattle.mesh_geometry.specs.TrianglePoints.{centre}
use Rattle.mesh_geometry.specs.OnEdge.{OnTriangle}

-- how many segments edge k has
abbrev pub segments : (ℕ → Run) → ℕ → ℕ
segments e k = (e k).c

-- ps are the points of a patch with the outer edges e 0, e 1 and e 2; `inside` is the edge that the inner level gives (n
-- segments). A point is found by its vertex number, the end of an edge by that of the next edge's first point
pub record RingPoints (e : ℕ → Run) (inside : Run) (ps : List Point) : Type 0 where
  -- on the outer ring each edge has its own places
  pub outer : (k i : ℕ) → k < 3 → i ≤ (e k).c → OnTriangle k ((e k).q i) 0 (at ps (vertex_on (segments e) inside.c 0 k i))
  -- on ring j each edge has the inner level's places q(j) to q(n − j)
  pub inner : (j k i : ℕ) → 1 ≤ j → 2 * j < inside.c → k < 3 → j ≤ i → i ≤ inside.c - j
      → OnTriangle k (inside.q i) (inside.q j) (at ps (vertex_on (segments e) inside.c j k (i - j)))
  -- for even n the last point is the centre
  pub even : (h : ℕ) → inside.c ≡ 2 * h
      → (at ps (ring_first (segments e) inside.c h) ≡ centre) × (length ps ≡ ring_first (segments e) inside.c h + 1)
  -- for odd n the last ring has one segment per edge
  pub odd : (h : ℕ) → inside.c ≡ 2 * h + 1 → length ps ≡ ring_first (segments e) inside.c (suc h)
