use Rattle.triangle_point_rows.proofs.Wide.{laid_first}
use Rattle.triangle_point_rows.proofs.write_wide_rings.Goals as goal

pub write_laid_rings-requires-clause-laid : goal.write_laid_rings-requires-clause-laid
write_laid_rings-requires-clause-laid c = let laid = laid_first c.args.row.now c.write_edge.ensures c.write_edge-2.ensures in laid
