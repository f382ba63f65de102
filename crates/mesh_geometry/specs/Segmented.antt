-- The edge that segments describe, and the points of isolines. Assumes nothing.
use Rattle.std.specs.Prelude.{suc, List}
use Rattle.level.specs.declared.Segments.{Segments}
use Rattle.edge.specs.Positions.{position}
use Rattle.mesh_geometry.specs.declared.Point.{Point}
use Rattle.mesh_geometry.specs.Edge.{Run}
use Rattle.mesh_geometry.specs.QuadPoints.{grid}

-- the edge with these n and L: its points are at q(0) to q(n)
abbrev pub run : Segments → Run
run s = record { q = position s.count s.scaled; c = s.count }

-- the points of isolines: one isoline at v = q(0) to q(n − 1) of `lines`, and no isoline at v = 1; on each isoline a point at every u of `along`
abbrev pub isoline_points : Run → Run → List Point
isoline_points lines along = grid (λ r c. record { u = along.q c; v = lines.q r; w = 0 }) lines.c (suc along.c)
