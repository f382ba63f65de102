use native.Mathlib.Omega.{arith}
use Prim.Native.Nat.{◌-◌, ◌*◌, ◌%◌, ◌≤◌}
use mathlib.Core.Path.{◌≡◌, sym}
use lib.ListN.{length, take, get_or}
use Rattle.buffer.proofs.Laws.{wrote_as}
use Rattle.mesh_geometry.specs.TrianglePoints.{triangle_place}
use Rattle.vertices.specs.Rows.{place_in, listed}
use Rattle.vertices.proofs.Edges.{three_edges}
use Rattle.triangle_point_rows.proofs.Eights.{sums_size}
use Rattle.triangle_point_rows.proofs.Wide.{front_ring_size, edge_zero, edge_one, edge_two}
use Rattle.triangle_point_rows.proofs.write_wide_ring.Goals as goal

pub write_run-w-requires-clause-room : goal.write_run-w-requires-clause-room
write_run-w-requires-clause-room c = omega (arith, front_ring_size c.args.row.now (omega arith), c.requires.room)

pub write_run-w-requires-2-clause-room : goal.write_run-w-requires-2-clause-room
write_run-w-requires-2-clause-room c = let a = c.args in
    let row = a.row.now in
    let less = c.wrapping_neg-less.result in
    let w = c.write_run-w in
    let size = sums_size a.base.now a.from (2 * get_or row 0 0) less less 0 (length row - 1) in
    omega (arith, front_ring_size row (omega arith), c.requires.room, w.ensures.next, w.auto.out, size)

pub write_run-requires-clause-room : goal.write_run-requires-clause-room
write_run-requires-clause-room c = let a = c.args in
    let row = a.row.now in
    let less = c.wrapping_neg-less.result in
    let w = c.write_run-w in
    let v = c.write_run-w-2 in
    let size = sums_size a.base.now a.from (2 * get_or row 0 0) less less 0 (length row - 1) in
    let size2 = sums_size a.other.now a.from less (2 * get_or row 0 0) less 0 (length row - 1) in
    let room = front_ring_size row (omega arith) in
    omega (arith, room, c.requires.room, w.ensures.next, w.auto.out, size, v.ensures.next, v.auto.out, size2)

pub returns : goal.returns
returns c = let row = c.args.row.now in
    let laid = c.requires.laid in
    let some : 2 ≤ length row = omega (arith, c.requires.long) in
    let clear = c.requires.clear in
    let less = c.wrapping_neg-less.result in
    let negative : less ≡ (4294967296 - get_or row 0 0) % 4294967296 = omega arith in
    let e = listed (take (length row - 1) row) in
    three_edges triangle_place (place_in (take (length row - 1) row) 0) e e e c.requires.room
    (wrote_as (λ ys. ys) (sym (edge_zero laid some clear less negative)) c.write_run-w.ensures)
    (wrote_as (λ ys. ys) (sym (edge_one laid some clear less negative)) c.write_run-w-2.ensures)
    (wrote_as (λ ys. ys) (sym (edge_two laid some clear less negative)) c.write_run.ensures)
