use native.Mathlib.Omega.{arith}
use Rattle.vertices.proofs.Laid.{all_stored}
use Rattle.vertices.proofs.Parts.{first_fits, second_fits, both_parts}
use Rattle.quad_points.proofs.Quads.{quad_parts, first_four, all_valid, outline_ready, outline_written, inside_ready, inside_written}
use Rattle.quad_points.proofs.quad.write_quad_patch.Goals as goal

pub row_of-r0-requires : goal.row_of-r0-requires
row_of-r0-requires c = let a = c.args in
    let v = all_valid a.e0 a.e1 a.e2 a.e3 a.rows a.columns c.requires.outline_valid c.requires.inside_valid in (
      (c.requires.outline_valid.0.some, c.requires.outline_valid.0.few),
      (all_stored 8 (omega arith) c.rows_to_8-table.ensures (omega arith) v
          c.width-most.ensures).0,
    )

pub row_of-r1-requires : goal.row_of-r1-requires
row_of-r1-requires c = let a = c.args in
    let v = all_valid a.e0 a.e1 a.e2 a.e3 a.rows a.columns c.requires.outline_valid c.requires.inside_valid in (
      (c.requires.outline_valid.1.some, c.requires.outline_valid.1.few),
      (all_stored 8 (omega arith) c.rows_to_8-table.ensures
          (omega arith) v c.width-most.ensures).1.0,
    )

pub row_of-r2-requires : goal.row_of-r2-requires
row_of-r2-requires c = let a = c.args in
    let v = all_valid a.e0 a.e1 a.e2 a.e3 a.rows a.columns c.requires.outline_valid c.requires.inside_valid in (
      (c.requires.outline_valid.2.some, c.requires.outline_valid.2.few),
      (all_stored 8 (omega arith) c.rows_to_8-table.ensures
          (omega arith) v
          c.width-most.ensures).1.1.0,
    )

pub row_of-r3-requires : goal.row_of-r3-requires
row_of-r3-requires c = let a = c.args in
    let v = all_valid a.e0 a.e1 a.e2 a.e3 a.rows a.columns c.requires.outline_valid c.requires.inside_valid in (
      (c.requires.outline_valid.3.some, c.requires.outline_valid.3.few),
      (all_stored 8 (omega arith) c.rows_to_8-table.ensures
          (omega arith) v
          c.width-most.ensures).1.1.1.0,
    )

pub write_outline-w-requires-clause-rows : goal.write_outline-w-requires-clause-rows
write_outline-w-requires-clause-rows c = let a = c.args in (outline_ready a.e0 a.e1 a.e2 a.e3 c.row_of-r0.ensures
    c.row_of-r1.ensures c.row_of-r2.ensures c.row_of-r3.ensures
    (first_four (all_valid a.e0 a.e1 a.e2 a.e3 a.rows a.columns c.requires.outline_valid c.requires.inside_valid)) a.out.now a.at
    (first_fits (quad_parts a.e0 a.e1 a.e2 a.e3 a.rows a.columns a.out.now a.at c.requires.room))).0

pub write_outline-w-requires-clause-room : goal.write_outline-w-requires-clause-room
write_outline-w-requires-clause-room c = let a = c.args in (outline_ready a.e0 a.e1 a.e2 a.e3 c.row_of-r0.ensures
    c.row_of-r1.ensures c.row_of-r2.ensures c.row_of-r3.ensures
    (first_four (all_valid a.e0 a.e1 a.e2 a.e3 a.rows a.columns c.requires.outline_valid c.requires.inside_valid)) a.out.now a.at
    (first_fits (quad_parts a.e0 a.e1 a.e2 a.e3 a.rows a.columns a.out.now a.at c.requires.room))).1

pub row_of-r-requires : goal.row_of-r-requires
row_of-r-requires c = let a = c.args in
    let v = all_valid a.e0 a.e1 a.e2 a.e3 a.rows a.columns c.requires.outline_valid c.requires.inside_valid in (
      (c.requires.inside_valid.0.some, c.requires.inside_valid.0.few),
      (all_stored 8 (omega arith) c.rows_to_8-table.ensures (omega arith)
          v c.width-most.ensures).1.1.1.1.0,
    )

pub row_of-c-requires : goal.row_of-c-requires
row_of-c-requires c = let a = c.args in
    let v = all_valid a.e0 a.e1 a.e2 a.e3 a.rows a.columns c.requires.outline_valid c.requires.inside_valid in (
      (c.requires.inside_valid.1.some, c.requires.inside_valid.1.few),
      (all_stored 8 (omega arith) c.rows_to_8-table.ensures (omega arith) v
          c.width-most.ensures).1.1.1.1.1,
    )

pub write_small_inside-requires-clause-rows : goal.write_small_inside-requires-clause-rows
write_small_inside-requires-clause-rows c = let a = c.args in
    let o = c.write_outline-w in (inside_ready a.rows a.columns c.row_of-r.ensures c.row_of-c.ensures c.requires.inside_valid o.new.out o.result
    (second_fits (quad_parts a.e0 a.e1 a.e2 a.e3 a.rows a.columns a.out.now a.at c.requires.room)
    (outline_written a.e0 a.e1 a.e2 a.e3
    c.row_of-r0.ensures
    c.row_of-r1.ensures
    c.row_of-r2.ensures
    c.row_of-r3.ensures o.ensures))).0

pub write_small_inside-requires-clause-room : goal.write_small_inside-requires-clause-room
write_small_inside-requires-clause-room c = let a = c.args in
    let o = c.write_outline-w in (inside_ready a.rows a.columns c.row_of-r.ensures c.row_of-c.ensures c.requires.inside_valid o.new.out o.result
    (second_fits (quad_parts a.e0 a.e1 a.e2 a.e3 a.rows a.columns a.out.now a.at c.requires.room)
    (outline_written a.e0 a.e1 a.e2 a.e3
    c.row_of-r0.ensures
    c.row_of-r1.ensures
    c.row_of-r2.ensures
    c.row_of-r3.ensures o.ensures))).1

pub returns-then-most-lt9 : goal.returns-then-most-lt9
returns-then-most-lt9 c = let a = c.args in
    both_parts (quad_parts a.e0 a.e1 a.e2 a.e3 a.rows a.columns a.out.now a.at c.requires.room)
    (outline_written a.e0 a.e1 a.e2 a.e3
    c.row_of-r0.ensures c.row_of-r1.ensures c.row_of-r2.ensures
    c.row_of-r3.ensures
    c.write_outline-w.ensures)
    (inside_written a.rows a.columns c.row_of-r.ensures
    c.row_of-c.ensures c.write_small_inside.ensures)
