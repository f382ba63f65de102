use native.Mathlib.Omega.{arith}
use Rattle.point_table.proofs.Trees.{table_none}
use Rattle.equal_points.proofs.search.by_table.Goals as goal

pub fill-requires-clause-empty : goal.fill-requires-clause-empty
fill-requires-clause-empty g c = table_none _ c.args.slots _ (omega (arith, c.requires.room))
