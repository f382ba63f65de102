use Rattle.mesh_geometry.specs.Words.{read_points, read_triangles}
use Rattle.check_searches.specs.Triangles.{triangle_at}
use Rattle.check_faults.specs.Turns.{turns_wrong}
use Rattle.check_searches.proofs.First.{Passed}
use Rattle.check_faults.proofs.area.first_turned.Given as goal

abbrev pub invariant-loop-k : goal.invariant-loop-k
invariant-loop-k l = Passed (λ i. turns_wrong l.mesh.positive (read_points l.mesh.points.now) (triangle_at (read_triangles l.mesh.indices.now) i)) l.count l.k
