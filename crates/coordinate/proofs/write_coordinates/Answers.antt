use native.Mathlib.Omega.{arith}
use Rattle.coordinate.proofs.Fill.{fill_start, fill_step}
use Rattle.coordinate.proofs.write_coordinates.Goals as goal

pub loop-i-init : goal.loop-i-init
loop-i-init c = fill_start _ _ _ _

pub loop-i-preserved : goal.loop-i-preserved
loop-i-preserved c = fill_step 0 (omega arith) (omega arith) (omega arith) c.coordinate_of.ensures c.loop-i.invariant
