use Prim.Native.Nat.{◌/◌}
use lib.ListN.{length}
use Rattle.check_searches.specs.Points.{same_point}
use Rattle.buffer.proofs.Laws.{Counting}
use Rattle.compare_differences.specs.Lacking.{lacks}
use Rattle.compare_differences.specs.Meshes.{point_row}
use Rattle.compare_differences.specs.Differences.{words_if}
use Rattle.compare_lists.proofs.list.write_points.Given as goal

abbrev pub invariant-loop-k : goal.invariant-loop-k
invariant-loop-k l = Counting (λ i. words_if 0 l.number (lacks same_point (point_row l.side.mesh.points.now) (point_row l.side.other.points.now) i) i) l.k
    (length l.side.mesh.points.now / 3) l.out l.to l.initial.out l.at
