use Prim.Native.Nat.{◌≤◌}
use mathlib.Core.Path.{◌≡◌}
use mathlib.Core.Bool.{false}
use Rattle.check_searches.specs.Indices.{Lacks}
use Rattle.check_searches.proofs.index.holds.Given as goal

abbrev pub invariant-loop-k : goal.invariant-loop-k
invariant-loop-k l = (l.from ≤ l.k) × (l.found ≡ false → Lacks l.indices l.from l.k l.x l.y)
