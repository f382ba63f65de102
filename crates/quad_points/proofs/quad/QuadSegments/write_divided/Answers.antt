use Rattle.vertices.proofs.Parts.{first_fits, second_fits, both_parts}
use Rattle.quad_points.proofs.Quads.{quad_parts, first_four, outline_ready, outline_written, inside_ready, inside_written}
use Rattle.quad_points.proofs.quad.QuadSegments.write_divided.Goals as goal

pub write_outline-w-requires-clause-rows : goal.write_outline-w-requires-clause-rows
write_outline-w-requires-clause-rows c = let a = c.args in (outline_ready a.self.e0 a.self.e1 a.self.e2 a.self.e3 c.row_from-r0.ensures
    c.row_from-r1.ensures c.row_from-r2.ensures
    c.row_from-r3.ensures (first_four a.self.valid) a.out.now a.at
    (first_fits (quad_parts a.self.e0 a.self.e1 a.self.e2 a.self.e3 a.self.rows a.self.columns a.out.now a.at c.requires))).0

pub write_outline-w-requires-clause-room : goal.write_outline-w-requires-clause-room
write_outline-w-requires-clause-room c = let a = c.args in (outline_ready a.self.e0 a.self.e1 a.self.e2 a.self.e3 c.row_from-r0.ensures
    c.row_from-r1.ensures c.row_from-r2.ensures
    c.row_from-r3.ensures (first_four a.self.valid) a.out.now a.at
    (first_fits (quad_parts a.self.e0 a.self.e1 a.self.e2 a.self.e3 a.self.rows a.self.columns a.out.now a.at c.requires))).1

pub write_inside-requires-clause-rows : goal.write_inside-requires-clause-rows
write_inside-requires-clause-rows c = let a = c.args in
    let o = c.write_outline-w in
    let outline = outline_written a.self.e0 a.self.e1 a.self.e2 a.self.e3
    c.row_from-r0.ensures
    c.row_from-r1.ensures
    c.row_from-r2.ensures
    c.row_from-r3.ensures o.ensures in (inside_ready a.self.rows a.self.columns c.row_from-r4.ensures
    c.row_from-r5.ensures a.self.valid.1.1.1.1 o.new.out o.result
    (second_fits (quad_parts a.self.e0 a.self.e1 a.self.e2 a.self.e3 a.self.rows a.self.columns a.out.now a.at c.requires) outline)).0

pub write_inside-requires-clause-room : goal.write_inside-requires-clause-room
write_inside-requires-clause-room c = let a = c.args in
    let o = c.write_outline-w in
    let outline = outline_written a.self.e0 a.self.e1 a.self.e2 a.self.e3
    c.row_from-r0.ensures
    c.row_from-r1.ensures
    c.row_from-r2.ensures
    c.row_from-r3.ensures o.ensures in (inside_ready a.self.rows a.self.columns c.row_from-r4.ensures
    c.row_from-r5.ensures a.self.valid.1.1.1.1 o.new.out o.result
    (second_fits (quad_parts a.self.e0 a.self.e1 a.self.e2 a.self.e3 a.self.rows a.self.columns a.out.now a.at c.requires) outline)).1

pub returns : goal.returns
returns c = let a = c.args in
    let outline = outline_written a.self.e0 a.self.e1 a.self.e2 a.self.e3
    c.row_from-r0.ensures
    c.row_from-r1.ensures
    c.row_from-r2.ensures
    c.row_from-r3.ensures
    c.write_outline-w.ensures in
    both_parts (quad_parts a.self.e0 a.self.e1 a.self.e2 a.self.e3 a.self.rows a.self.columns a.out.now a.at c.requires) outline
    (inside_written a.self.rows a.self.columns c.row_from-r4.ensures
    c.row_from-r5.ensures c.write_inside.ensures)
