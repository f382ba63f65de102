use mathlib.Core.Path.{◌≡◌}
use lib.ListN.{drop}
use Rattle.level.specs.Discard.{discarded}
use Rattle.patch.specs.Every.{some}
use Rattle.patch.proofs.subdivision.discards_any.Given as goal

abbrev pub invariant-loop-k : goal.invariant-loop-k
invariant-loop-k l = some discarded l.outer ≡ some discarded (drop l.k l.outer)
