use Rattle.half_edge_bits.proofs.Rows.{rowed_none}
use Rattle.half_edges.proofs.lent.fill_rows.Goals as goal

pub fill-requires-clause-empty : goal.fill-requires-clause-empty
fill-requires-clause-empty c = rowed_none _ _ c.requires.empty c.requires.size
