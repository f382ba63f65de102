use Prim.Native.Nat.{◌/◌}
use lib.ListN.{length}
use Rattle.buffer.proofs.Laws.{Counting}
use Rattle.compare_differences.specs.Lacking.{lacks}
use Rattle.compare_differences.specs.Meshes.{face_row, same_face}
use Rattle.compare_differences.specs.Differences.{words_if}
use Rattle.compare_lists.proofs.list.write_faces.Given as goal

abbrev pub invariant-loop-k : goal.invariant-loop-k
invariant-loop-k l = Counting (λ i. words_if 1 l.number (lacks same_face (face_row l.side.mesh.points.now l.side.mesh.indices.now) (face_row l.side.other.points.now l.side.other.indices.now) i) i) l.k
    (length l.side.mesh.indices.now / 3) l.out l.to l.initial.out l.at
