use Rattle.half_edge_chains.proofs.Table.{linked_none}
use Rattle.half_edges.proofs.lent.fill_chains.Goals as goal

pub fill-requires-clause-empty : goal.fill-requires-clause-empty
fill-requires-clause-empty c = linked_none _ _ _ c.requires.empty
