use Rattle.vertices.proofs.Parts.{first_fits, second_fits, both_parts}
use Rattle.triangle_points.proofs.Triangles.{triangle_parts, first_three, outline_ready, outline_written, inside_ready, inside_written}
use Rattle.triangle_points.proofs.triangle.write_divided.Goals as goal

pub write_outline-w-requires-clause-rows : goal.write_outline-w-requires-clause-rows
write_outline-w-requires-clause-rows c = let a = c.args in (outline_ready a.e0 a.e1 a.e2 c.row_from-r0.ensures c.row_from-r1.ensures
    c.row_from-r2.ensures (first_three c.requires.fact_1.0) a.out.now a.at
    (first_fits (triangle_parts a.e0 a.e1 a.e2 a.inside c.requires.fact_1.1 a.out.now a.at c.requires.fact_2))).0

pub write_outline-w-requires-clause-room : goal.write_outline-w-requires-clause-room
write_outline-w-requires-clause-room c = let a = c.args in (outline_ready a.e0 a.e1 a.e2 c.row_from-r0.ensures c.row_from-r1.ensures
    c.row_from-r2.ensures (first_three c.requires.fact_1.0) a.out.now a.at
    (first_fits (triangle_parts a.e0 a.e1 a.e2 a.inside c.requires.fact_1.1 a.out.now a.at c.requires.fact_2))).1

pub write_inside-requires-clause-good : goal.write_inside-requires-clause-good
write_inside-requires-clause-good c = let a = c.args in
    let o = c.write_outline-w in (inside_ready a.inside c.row_from-r3.ensures c.requires.fact_1.1 c.requires.fact_1.0.1.1.1 o.new.out o.result
    (second_fits (triangle_parts a.e0 a.e1 a.e2 a.inside c.requires.fact_1.1 a.out.now a.at c.requires.fact_2)
    (outline_written a.e0 a.e1 a.e2 c.row_from-r0.ensures
    c.row_from-r1.ensures c.row_from-r2.ensures
    o.ensures))).0

pub write_inside-requires-clause-room : goal.write_inside-requires-clause-room
write_inside-requires-clause-room c = let a = c.args in
    let o = c.write_outline-w in (inside_ready a.inside c.row_from-r3.ensures c.requires.fact_1.1 c.requires.fact_1.0.1.1.1 o.new.out o.result
    (second_fits (triangle_parts a.e0 a.e1 a.e2 a.inside c.requires.fact_1.1 a.out.now a.at c.requires.fact_2)
    (outline_written a.e0 a.e1 a.e2 c.row_from-r0.ensures
    c.row_from-r1.ensures c.row_from-r2.ensures
    o.ensures))).1

pub returns : goal.returns
returns c = let a = c.args in
    both_parts (triangle_parts a.e0 a.e1 a.e2 a.inside c.requires.fact_1.1 a.out.now a.at c.requires.fact_2)
    (outline_written a.e0 a.e1 a.e2 c.row_from-r0.ensures
    c.row_from-r1.ensures
    c.row_from-r2.ensures
    c.write_outline-w.ensures)
    (inside_written a.inside c.row_from-r3.ensures c.requires.fact_1.1
    c.write_inside.ensures)
