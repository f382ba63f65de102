use Rattle.check_searches.specs.Points.{same_point}
use Rattle.compare_differences.specs.Lacking.{lacks}
use Rattle.compare_differences.specs.Meshes.{point_row}
use Rattle.compare_lists.proofs.Passing.{Tally}
use Rattle.compare_lists.proofs.list.count_points.Given as goal

abbrev pub invariant-loop-k : goal.invariant-loop-k
invariant-loop-k l = Tally (lacks same_point (point_row l.side.mesh.points.now) (point_row l.side.other.points.now)) l.k l.count l.n
