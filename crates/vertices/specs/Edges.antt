-- The points of one edge. Assumes nothing.
use Rattle.std.specs.Prelude.{ℕ, List}
use Rattle.edge.specs.Table.{table}
use Rattle.mesh_geometry.specs.declared.Point.{Point}
use Rattle.mesh_geometry.specs.Edge.{Run}

-- the points of edge k on the ring d units inside, without the edge's end; `place k x d` is the point at place x
abbrev pub edge_points : (ℕ → ℕ → ℕ → Point) → ℕ → Run → ℕ → List Point
edge_points place k e d = table (λ i. place k (e.q i) d) e.c
