use Rattle.mesh_geometry.specs.Faces.{at}
use Rattle.mesh_geometry.specs.Words.{read_points}
use Rattle.check_searches.specs.Points.{same_point}
use Rattle.check_searches.proofs.First.{Passed}
use Rattle.check_searches.proofs.point.first_equal.Given as goal

abbrev pub invariant-loop-i : goal.invariant-loop-i
invariant-loop-i l = Passed (λ k. same_point (at (read_points l.points) k) l.q) l.end l.i
