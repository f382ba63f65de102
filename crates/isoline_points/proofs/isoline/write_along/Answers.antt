use borrow.Author.Rules.{rules}
use Rattle.isoline_points.proofs.Lines.{rows_ready, rows_written}
use Rattle.isoline_points.proofs.isoline.write_along.Goals as goal

pub write_rows-requires-clause-fact_1 : goal.write_rows-requires-clause-fact_1
write_rows-requires-clause-fact_1 c = let a = c.args in (rows_ready a.lines a.along c.requires.fact_2 c.row_of-stored.ensures c.requires.fact_1 a.out.now a.at c.requires.fact_4).0

pub write_rows-requires-clause-fact_2 : goal.write_rows-requires-clause-fact_2
write_rows-requires-clause-fact_2 c = let a = c.args in (rows_ready a.lines a.along c.requires.fact_2 c.row_of-stored.ensures c.requires.fact_1 a.out.now a.at c.requires.fact_4).1

pub returns-then-along : goal.returns-then-along
returns-then-along c = search (rows_written, rules)

pub write_rows-requires-2-clause-fact_1 : goal.write_rows-requires-2-clause-fact_1
write_rows-requires-2-clause-fact_1 c = let a = c.args in (rows_ready a.lines a.along c.requires.fact_2 c.row_from-divided.ensures c.requires.fact_1 a.out.now a.at c.requires.fact_4).0

pub write_rows-requires-2-clause-fact_2 : goal.write_rows-requires-2-clause-fact_2
write_rows-requires-2-clause-fact_2 c = let a = c.args in (rows_ready a.lines a.along c.requires.fact_2 c.row_from-divided.ensures c.requires.fact_1 a.out.now a.at c.requires.fact_4).1

pub returns : goal.returns
returns c = search (rows_written, rules)
