use Rattle.edge.proofs.Rows.{row_filled}
use Rattle.edge.proofs.divided_row.Goals as goal

pub returns : goal.returns
returns c = let s = c.args.s in row_filled s.count s.scaled _ c.fill_row.ensures
