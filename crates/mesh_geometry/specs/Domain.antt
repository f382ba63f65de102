-- The domain that a patch fills, and which spots lie strictly inside it. Assumes nothing.
use Rattle.std.specs.Prelude.{ℕ, ◌+◌, ◌<◌}
use Rattle.mesh_geometry.specs.declared.Point.{Point}
use Rattle.mesh_geometry.specs.TrianglePoints.{triangle_place}
use Rattle.mesh_geometry.specs.QuadPoints.{quad_place}
use Rattle.mesh_geometry.specs.Held.{Spot}

-- a triangle, whose coordinates add up to 196608, or a square with sides of 65536
pub data Domain : Type 0 where
  triangle : Domain
  square : Domain

-- how many edges the domain has
abbrev pub edge_count : Domain → ℕ
edge_count triangle = 3
edge_count square = 4

-- the point at place x of edge k, d units inside
abbrev pub place_on : Domain → ℕ → ℕ → ℕ → Point
place_on triangle = triangle_place
place_on square = quad_place

-- the spot lies strictly inside the domain
abbrev pub InsideDomain : Domain → Spot → Type 0
InsideDomain triangle s = (0 < s.u) × (0 < s.v) × (s.u + s.v < 196608)
InsideDomain square s = (0 < s.u) × (s.u < 65536) × (0 < s.v) × (s.v < 65536)
