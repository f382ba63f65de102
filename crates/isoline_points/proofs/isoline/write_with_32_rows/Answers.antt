use Rattle.isoline_points.proofs.isoline.write_with_32_rows.Goals as goal

pub write_by_spacing-requires-clause-fact_2 : goal.write_by_spacing-requires-clause-fact_2
write_by_spacing-requires-clause-fact_2 c = rw c.rows_to_32-table.ensures c.requires.stored
