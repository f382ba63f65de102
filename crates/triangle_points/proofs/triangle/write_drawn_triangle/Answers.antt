use native.Mathlib.Omega.{arith}
use Rattle.vertices.proofs.Laid.{all_stored}
use Rattle.vertices.proofs.Parts.{first_fits, second_fits, both_parts}
use Rattle.triangle_points.proofs.Triangles.{triangle_parts, first_three, all_valid, inside_ready, inside_written}
use Rattle.triangle_points.proofs.triangle.write_drawn_triangle.Goals as goal

pub row_of-row-requires : goal.row_of-row-requires
row_of-row-requires c = let a = c.args in
    let v = all_valid a.e0 a.e1 a.e2 a.inside c.requires.fact_1 c.requires.fact_2.0 in (
      (c.requires.fact_2.0.some, c.requires.fact_2.0.few),
      (all_stored 8 (omega arith) c.rows_to_8-table.ensures
          (omega arith) v
          c.width_of-most.ensures).1.1.1,
    )

pub write_small_inside-requires-clause-good : goal.write_small_inside-requires-clause-good
write_small_inside-requires-clause-good c = let a = c.args in
    let o = c.write_stored_outline-w in (inside_ready a.inside c.row_of-row.ensures c.requires.fact_2.1 c.requires.fact_2.0 o.new.out o.result
    (second_fits (triangle_parts a.e0 a.e1 a.e2 a.inside c.requires.fact_2.1 a.out.now a.at c.requires.fact_3) o.ensures)).0

pub write_small_inside-requires-clause-room : goal.write_small_inside-requires-clause-room
write_small_inside-requires-clause-room c = let a = c.args in
    let o = c.write_stored_outline-w in (inside_ready a.inside c.row_of-row.ensures c.requires.fact_2.1 c.requires.fact_2.0 o.new.out o.result
    (second_fits (triangle_parts a.e0 a.e1 a.e2 a.inside c.requires.fact_2.1 a.out.now a.at c.requires.fact_3) o.ensures)).1

pub returns-then-most-lt9 : goal.returns-then-most-lt9
returns-then-most-lt9 c = let a = c.args in
    both_parts (triangle_parts a.e0 a.e1 a.e2 a.inside c.requires.fact_2.1 a.out.now a.at c.requires.fact_3)
    c.write_stored_outline-w.ensures
    (inside_written a.inside c.row_of-row.ensures c.requires.fact_2.1 c.write_small_inside.ensures)

pub write_stored_outline-w-requires-clause-fact_2 : goal.write_stored_outline-w-requires-clause-fact_2
write_stored_outline-w-requires-clause-fact_2 c =
    let a = c.args in
    let v = all_valid a.e0 a.e1 a.e2 a.inside c.requires.fact_1 c.requires.fact_2.0 in
    first_three (all_stored 8 (omega arith) c.rows_to_8-table.ensures (omega arith) v c.width_of-most.ensures)

pub write_stored_outline-w-requires-clause-fact_3 : goal.write_stored_outline-w-requires-clause-fact_3
write_stored_outline-w-requires-clause-fact_3 c =
    let a = c.args in
    first_fits (triangle_parts a.e0 a.e1 a.e2 a.inside c.requires.fact_2.1 a.out.now a.at c.requires.fact_3)
