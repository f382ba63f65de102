use Rattle.compare_differences.specs.Lacking.{lacks}
use Rattle.compare_differences.specs.Meshes.{face_row, same_face}
use Rattle.compare_lists.proofs.Passing.{Tally}
use Rattle.compare_lists.proofs.list.count_faces.Given as goal

abbrev pub invariant-loop-k : goal.invariant-loop-k
invariant-loop-k l = Tally (lacks same_face (face_row l.side.mesh.points.now l.side.mesh.indices.now) (face_row l.side.other.points.now l.side.other.indices.now)) l.k l.count l.n
