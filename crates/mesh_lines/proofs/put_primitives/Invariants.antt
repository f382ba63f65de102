use Rattle.mesh_lines.proofs.Listed.{Listed}
use Rattle.mesh_lines.proofs.put_primitives.Given as goal

abbrev pub invariant-loop-i : goal.invariant-loop-i
invariant-loop-i l = Listed 18 l.width l.indices l.from l.i l.count l.out l.w l.initial.out l.at
