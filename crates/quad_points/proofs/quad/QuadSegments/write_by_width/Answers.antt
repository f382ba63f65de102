use native.Mathlib.Omega.{arith}
use Rattle.vertices.proofs.Laid.{all_stored}
use Rattle.quad_points.proofs.quad.QuadSegments.write_by_width.Goals as goal

pub write_stored-requires-clause-stored : goal.write_stored-requires-clause-stored
write_stored-requires-clause-stored c = all_stored 16 (omega arith) c.rows_to_16-table.ensures (omega arith) c.args.self.valid c.requires.widths

pub write_stored-requires-then-most-le32-clause-stored : goal.write_stored-requires-then-most-le32-clause-stored
write_stored-requires-then-most-le32-clause-stored c = all_stored 32 (omega arith) c.rows_to_32-table.ensures (omega arith) c.args.self.valid c.requires.widths

pub write_stored-requires-then-most-le64-clause-stored : goal.write_stored-requires-then-most-le64-clause-stored
write_stored-requires-then-most-le64-clause-stored c = all_stored 64 (omega arith) c.rows_to_64-table.ensures (omega arith) c.args.self.valid c.requires.widths
