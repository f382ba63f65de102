use native.Mathlib.Omega.{arith}
use Prim.Native.Nat.{◌+◌, ◌*◌}
use Rattle.buffer.proofs.Laws.{count_start, count_fits, count_step, count_done}
use Rattle.grid_indices.proofs.Grids.{row_length, grid_length, cells_words}
use Rattle.grid_indices.proofs.cells.write_each.Goals as goal

pub loop-r-init : goal.loop-r-init
loop-r-init c =
    let a = c.args in
    let g = a.grid in
    count_start (omega (arith, grid_length a.positive g.start g.width g.b g.a))

pub write_row-to-requires-clause-room : goal.write_row-to-requires-clause-room
write_row-to-requires-clause-room c =
    let a = c.args in
    let g = a.grid in
    let l = c.loop-r in
    omega (arith, count_fits (omega arith) l.invariant, row_length a.positive (g.start + l.r * g.width) g.width g.b)

pub loop-r-preserved : goal.loop-r-preserved
loop-r-preserved c = count_step (omega arith) c.write_row-to.ensures c.loop-r.invariant

pub returns : goal.returns
returns c =
    let a = c.args in
    let g = a.grid in
    rw (cells_words a.positive g.start g.width g.b g.a) (count_done c.loop-r-test.false c.loop-r.invariant)
