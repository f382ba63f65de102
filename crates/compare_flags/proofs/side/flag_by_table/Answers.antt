use Rattle.half_edge_chains.proofs.Table.{zeros_all}
use Rattle.compare_flags.proofs.side.flag_by_table.Goals as goal

pub flag_by-requires-clause-empty : goal.flag_by-requires-clause-empty
flag_by-requires-clause-empty g c = zeros_all _
