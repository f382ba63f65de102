use Rattle.compare_table_flags.specs.Flags.{is_set}
use Rattle.compare_lists.proofs.Passing.{Tally}
use Rattle.compare_lists.proofs.list.count_set.Given as goal

abbrev pub invariant-loop-k : goal.invariant-loop-k
invariant-loop-k l = Tally (is_set l.flags) l.k l.count l.n
