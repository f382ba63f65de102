use mathlib.Core.Bool.{not}
use Rattle.mesh_geometry.specs.Faces.{at}
use Rattle.mesh_geometry.specs.Words.{read_points}
use Rattle.check_faults.specs.Inside.{inside}
use Rattle.check_searches.proofs.First.{Passed}
use Rattle.check_faults.proofs.inside.first_outside.Given as goal

abbrev pub invariant-loop-k : goal.invariant-loop-k
invariant-loop-k l = Passed (λ i. not (inside l.triangles (at (read_points l.points) i))) l.count l.k
