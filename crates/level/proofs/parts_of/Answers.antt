use native.Mathlib.Omega.{arith}
use lib.Ieee.{of_bits}
use Rattle.level.proofs.Exact.{counted}
use Rattle.level.proofs.parts_of.Goals as goal

pub float_to_int-fine_parts : goal.float_to_int-fine_parts
unfolding of_bits
float_to_int-fine_parts c = (counted c.args.x c.row_known-1.given c.requires).is_whole

pub overflow_add-result : goal.overflow_add-result
unfolding of_bits
overflow_add-result c = omega (arith, (counted c.args.x c.row_known-1.given c.requires).small)

pub returns : goal.returns
unfolding of_bits
returns c = (counted c.args.x c.row_known-1.given c.requires).rounded
