use lib.Ieee.{of_bits}
use Rattle.level.proofs.Discard.{not_above}
use Rattle.level.proofs.discards.Goals as goal

pub returns : goal.returns
unfolding of_bits
returns c = not_above c.args.level
