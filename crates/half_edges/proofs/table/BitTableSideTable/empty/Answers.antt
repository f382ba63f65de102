use mathlib.Core.Path.{refl}
use Rattle.half_edge_chains.proofs.Table.{zeros_all}
use Rattle.half_edge_bits.proofs.Rows.{rowed_none}
use Rattle.half_edges.proofs.table.BitTableSideTable.empty.Goals as goal

pub returns : goal.returns
returns c = λ ts. rowed_none ts _ (zeros_all 64) refl
