use Rattle.compare_table_flags.specs.Flags.{Narrowed, is_first}
use Rattle.compare_table_flags.proofs.flag.flag_first.Given as goal

abbrev pub invariant-loop-k : goal.invariant-loop-k
invariant-loop-k l = Narrowed (is_first l.mesh.points.now l.mesh.indices.now) l.k l.initial.flags l.flags
