use lib.ListN.{length}
use Rattle.mesh_geometry.specs.TrianglePoints.{triangle_place}
use Rattle.vertices.specs.Rows.{place_in}
use Rattle.vertices.proofs.Loops.{Points}
use Rattle.triangle_point_rows.proofs.write_edge.Given as goal

abbrev pub invariant-loop-x : goal.invariant-loop-x
invariant-loop-x l = Points (λ n. triangle_place l.k (place_in l.row n) l.depth) l.x-index (length l.row) l.out l.to l.initial.out l.at
