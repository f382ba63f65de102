use native.Mathlib.Omega.{arith}
use Rattle.edge_table.proofs.StoredRows.{rows_written}
use Rattle.edge_table.proofs.rows_to.Goals as goal

pub returns : goal.returns
returns g c =
    rows_written g.row.MOST g.row.LENGTH c.rows_to_64-all.ensures c.requires.whole c.requires.few (omega arith) c.put_all.ensures
