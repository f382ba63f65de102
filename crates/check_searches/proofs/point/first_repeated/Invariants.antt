use Rattle.mesh_geometry.specs.Words.{read_points}
use Rattle.check_searches.specs.Points.{repeats}
use Rattle.check_searches.proofs.First.{Passed}
use Rattle.check_searches.proofs.point.first_repeated.Given as goal

abbrev pub invariant-loop-j : goal.invariant-loop-j
invariant-loop-j l = Passed (repeats (read_points l.points)) l.count l.j
