use mathlib.Core.Path.{refl}
use Rattle.point_table.specs.Trees.{slot_of}
use Rattle.point_table.proofs.slot_of.Goals as goal

pub returns-clause-slot : goal.returns-clause-slot
unfolding slot_of
returns-clause-slot c = refl
