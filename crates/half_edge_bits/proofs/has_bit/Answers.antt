use mathlib.Core.Path.{refl}
use Rattle.half_edge_bits.specs.Rows.{bit}
use Rattle.half_edge_bits.proofs.has_bit.Goals as goal

pub returns : goal.returns
unfolding bit
returns c = refl
