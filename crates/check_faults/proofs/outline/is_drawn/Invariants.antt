use Rattle.mesh_geometry.specs.Words.{read_points, read_triangles}
use Rattle.check_searches.specs.Triangles.{triangle_at}
use Rattle.check_searches.proofs.First.{Passed}
use Rattle.mesh_geometry.specs.Faces.{at, face_of}
use Rattle.check_faults.specs.Outline.{bounds}
use Rattle.check_faults.proofs.outline.is_drawn.Given as goal

abbrev pub invariant-loop-k : goal.invariant-loop-k
invariant-loop-k l = Passed (λ i. bounds (face_of (at (read_points l.mesh.points.now)) (triangle_at (read_triangles l.mesh.indices.now) i)) (record { start = l.p; end = l.q })) l.count l.k
