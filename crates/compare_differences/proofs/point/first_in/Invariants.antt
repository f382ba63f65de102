use Rattle.mesh_geometry.specs.Words.{read_points}
use Rattle.compare_differences.proofs.Finds.{Open}
use Rattle.compare_differences.proofs.point.first_in.Given as goal

abbrev pub invariant-loop-i : goal.invariant-loop-i
invariant-loop-i l = Open (read_points l.points) l.from l.to l.p l.i
