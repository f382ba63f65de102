use native.Mathlib.Omega.{arith}
use Rattle.vertices.proofs.Laid.{all_stored}
use Rattle.triangle_points.proofs.triangle.write_by_width.Goals as goal

pub write_stored-requires-clause-fact_2 : goal.write_stored-requires-clause-fact_2
write_stored-requires-clause-fact_2 c = all_stored 8 (omega arith) c.rows_to_8-table.ensures (omega arith) c.requires.fact_1.0 c.requires.fact_2

pub write_stored-requires-then-most-le16-clause-fact_2 : goal.write_stored-requires-then-most-le16-clause-fact_2
write_stored-requires-then-most-le16-clause-fact_2 c = all_stored 16 (omega arith) c.rows_to_16-table.ensures (omega arith) c.requires.fact_1.0 c.requires.fact_2

pub write_stored-requires-then-most-le32-clause-fact_2 : goal.write_stored-requires-then-most-le32-clause-fact_2
write_stored-requires-then-most-le32-clause-fact_2 c = all_stored 32 (omega arith) c.rows_to_32-table.ensures (omega arith) c.requires.fact_1.0 c.requires.fact_2

pub write_stored-requires-then-most-le64-clause-fact_2 : goal.write_stored-requires-then-most-le64-clause-fact_2
write_stored-requires-then-most-le64-clause-fact_2 c = all_stored 64 (omega arith) c.rows_to_64-table.ensures (omega arith) c.requires.fact_1.0 c.requires.fact_2
