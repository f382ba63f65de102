use Rattle.check_searches.specs.Points.{same_point}
use Rattle.compare_differences.specs.Lacking.{lacks}
use Rattle.compare_differences.specs.Meshes.{point_row}
use Rattle.compare_table_flags.specs.Flags.{Narrowed}
use Rattle.compare_table_flags.proofs.flag.flag_points.Given as goal

abbrev pub invariant-loop-k : goal.invariant-loop-k
invariant-loop-k l = Narrowed (lacks same_point (point_row l.points) (point_row l.others)) l.k l.initial.flags l.flags
