use lib.Ieee.{of_bits}
use Rattle.level.proofs.range_of.Goals as goal
use Rattle.level.proofs.range_of.Goals.{in-Equal, in-FractionalEven, in-FractionalOdd}

pub invariant_of-result : goal.invariant_of-result
unfolding of_bits
invariant_of-result c = elim c.match-spacing.branch [
  | in-Equal w ↦ rw w.result-is (record { is_top = c.requires; from = rw w.in-Equal.is; to = rw w.in-Equal.is })
  | in-FractionalEven w ↦ rw w.result-is (record { is_top = c.requires; from = rw w.in-FractionalEven.is; to = rw w.in-FractionalEven.is })
  | in-FractionalOdd w ↦ rw w.result-is (record { is_top = c.requires; from = rw w.in-FractionalOdd.is; to = rw w.in-FractionalOdd.is })
]
