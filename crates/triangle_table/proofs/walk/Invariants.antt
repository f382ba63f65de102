use Prim.Native.Nat.{◌*◌}
use Rattle.mesh_geometry.specs.Words.{read_triangles}
use Rattle.triangle_table.specs.Hits.{TriangleSought}
use Rattle.triangle_table.proofs.walk.Given as goal

abbrev pub invariant-loop-k : goal.invariant-loop-k
invariant-loop-k l = TriangleSought (read_triangles l.indices) l.t (l.n * 3) l.k

abbrev pub decreases-loop-k : goal.decreases-loop-k
decreases-loop-k l = l.k
