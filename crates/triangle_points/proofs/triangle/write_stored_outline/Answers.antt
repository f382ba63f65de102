use borrow.Author.Rules.{rules}
use Rattle.triangle_points.proofs.Triangles.{outline_ready, outline_written}
use Rattle.triangle_points.proofs.triangle.write_stored_outline.Goals as goal

pub write_outline-requires-clause-rows : goal.write_outline-requires-clause-rows
write_outline-requires-clause-rows c = let a = c.args in (outline_ready a.e0 a.e1 a.e2 c.row_of-r0.ensures c.row_of-r1.ensures c.row_of-r2.ensures
    c.requires.fact_1 a.out.now a.at c.requires.fact_3).0

pub write_outline-requires-clause-room : goal.write_outline-requires-clause-room
write_outline-requires-clause-room c = let a = c.args in (outline_ready a.e0 a.e1 a.e2 c.row_of-r0.ensures c.row_of-r1.ensures c.row_of-r2.ensures
    c.requires.fact_1 a.out.now a.at c.requires.fact_3).1

pub returns : goal.returns
returns c = search (outline_written, rules)
