-- The points of a quad patch as document 01 lists them, each by its number. Assumes nothing.
use Rattle.std.specs.Prelude.{ℕ, ◌+◌, ◌-◌, ◌*◌, ◌≤◌, ◌<◌, ◌≡◌, List, length}
use Rattle.mesh_topology.specs.GridStrips.{grid_on}
use Rattle.mesh_geometry.specs.declared.Point.{Point}
use Rattle.mesh_geometry.specs.Edge.{Run}
use Rattle.mesh_geometry.specs.Faces.{at}
use Rattle.mesh_geometry.specs.OnEdge.{OnSquare}
use Rattle.mesh_geometry.specs.OuterRing.{edge_start}
use Rattle.mesh_geometry.specs.RingPoints.{segments}

-- ps are the points of a patch with the outer edges e 0 to e 3; `rows` is the edge that the first inner level gives (m
-- segments), `columns` that of the second (n)
pub record GridPoints (e : ℕ → Run) (rows columns : Run) (ps : List Point) : Type 0 where
  pub size : length ps ≡ edge_start e 4 + (rows.c - 1) * (columns.c - 1)
  -- the points of the outline; each edge is without its end
  pub outer : (k i : ℕ) → k < 4 → i < (e k).c → OnSquare k ((e k).q i) (at ps (edge_start e k + i))
  -- the points of the inner grid: row r, from 1 to m − 1, gives v, and column c, from 1 to n − 1, gives u
  pub inner : (r c : ℕ) → 1 ≤ r → r < rows.c → 1 ≤ c → c < columns.c
      → at ps (grid_on (segments e) columns.c r c) ≡ record { u = columns.q c; v = rows.q r; w = 0 }
