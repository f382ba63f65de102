use Rattle.half_edge_chains.proofs.Table.{zeros_all, linked_none}
use Rattle.half_edges.proofs.table.ChainTableSideTable.empty.Goals as goal

pub returns : goal.returns
returns g c = λ ts. linked_none ts _ _ (zeros_all _)
