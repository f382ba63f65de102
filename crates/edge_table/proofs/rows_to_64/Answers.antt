use Rattle.edge.specs.Positions.{position}
use Rattle.edge.specs.Table.{table}
use Rattle.edge_table.specs.Stored.{rows_from, rows_to}
use Rattle.edge_table.proofs.Same.{same_is}
use Rattle.edge_table.proofs.rows_to_64.Goals as goal

pub returns : goal.returns
unfolding position table rows_from
returns c = same_is _ (rows_to 64) tt
