use Rattle.compare_table_flags.specs.Flags.{Narrowed, no_same_face}
use Rattle.compare_table_flags.proofs.flag.flag_missing.Given as goal

abbrev pub invariant-loop-k : goal.invariant-loop-k
invariant-loop-k l = Narrowed (no_same_face l.mesh.points.now l.mesh.indices.now l.other.points.now l.other.indices.now) l.k l.initial.flags l.flags
