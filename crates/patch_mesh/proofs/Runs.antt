-- The edges of a valid subdivision have good places. Assumes nothing.
use Rattle.level.specs.declared.Segments.{Segments}
use Rattle.mesh_topology.specs.Nest.{Edges}
use Rattle.mesh_geometry.specs.Edge.{GoodRun}
use Rattle.mesh_geometry.proofs.Positions.{good_positions}
use Rattle.mesh_geometry.proofs.TrianglePatch.{edges_two}
use Rattle.patch_mesh.specs.Valid.{ValidEdge, ValidTriangle}
use Rattle.patch_mesh.specs.Points.{run}

pub good_run : (s : Segments) → ValidEdge s → GoodRun (run s)
good_run s v = good_positions s.count s.scaled v

-- any outer edges go with the inner level of a valid triangle patch
pub valid_edges : {a b c i : Segments} → ValidTriangle a b c i → Edges a.count b.count c.count i.count
valid_edges {a} {b} {c} {i} v =
    edges_two _ _ _ _ (good_run a v.edge0) (good_run b v.edge1) (good_run c v.edge2) (good_run i v.inside.edge)
    v.inside.two
