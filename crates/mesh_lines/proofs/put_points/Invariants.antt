use Rattle.mesh_lines.proofs.Listed.{Listed}
use Rattle.mesh_lines.proofs.put_points.Given as goal

abbrev pub invariant-loop-i : goal.invariant-loop-i
invariant-loop-i l = Listed 33 3 l.vertices l.from l.i l.count l.out l.w l.initial.out l.at
