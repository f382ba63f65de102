use native.Mathlib.Omega.{arith}
use mathlib.Core.Path.{refl}
use Rattle.buffer.proofs.Laws.{count_fits}
use Rattle.vertices.proofs.Loops.{points_start, points_step, points_done}
use Rattle.vertices.proofs.grid.write_row.Goals as goal

pub loop-u-init : goal.loop-u-init
loop-u-init c = points_start _ c.requires

pub put3-to-requires : goal.put3-to-requires
put3-to-requires c = count_fits (omega arith) c.loop-u.invariant

pub loop-u-preserved : goal.loop-u-preserved
loop-u-preserved c = points_step (omega arith) refl c.put3-to.ensures c.loop-u.invariant

pub returns : goal.returns
returns c = points_done _ c.loop-u-test.false c.loop-u.invariant
