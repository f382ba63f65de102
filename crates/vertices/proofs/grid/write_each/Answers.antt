use native.Mathlib.Omega.{arith}
use lib.ListN.{length}
use Rattle.buffer.proofs.Laws.{count_step}
use Rattle.vertices.specs.Grids.{crossing}
use Rattle.vertices.proofs.Loops.{rows_start, rows_fits, rows_done}
use Rattle.vertices.proofs.grid.write_each.Goals as goal

pub loop-v-init : goal.loop-v-init
loop-v-init c =
    let s = c in
    rows_start (crossing s.args.rows.now s.args.columns.now) (length s.args.columns.now) s.requires

pub write_row-to-requires : goal.write_row-to-requires
write_row-to-requires c =
    let a = c.args in
    rows_fits (crossing a.rows.now a.columns.now) (length a.columns.now) (omega arith) c.loop-v.invariant

pub loop-v-preserved : goal.loop-v-preserved
loop-v-preserved c = count_step (omega arith) c.write_row-to.ensures c.loop-v.invariant

pub returns : goal.returns
returns c =
    let a = c.args in
    rows_done (crossing a.rows.now a.columns.now) (length a.columns.now) c.loop-v-test.false c.loop-v.invariant
