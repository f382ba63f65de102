use native.Mathlib.Omega.{arith}
use Rattle.point_table.proofs.Trees.{table_none}
use Rattle.compare_table_flags.proofs.Tables.{table_whole}
use Rattle.compare_table_flags.proofs.partner.match_by_table.Goals as goal

pub fill-requires-clause-empty : goal.fill-requires-clause-empty
fill-requires-clause-empty g c = table_none _ c.args.slots _ (omega (arith, c.requires.table_room))

pub match_by-requires-clause-filled : goal.match_by-requires-clause-filled
match_by-requires-clause-filled g c = table_whole c.requires.distinct c.fill.ensures.first c.fill.ensures.filled
