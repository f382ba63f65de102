use Prim.Native.Nat.{◌*◌}
use mathlib.Core.Path.{◌≡◌}
use mathlib.Core.List.{◌++◌}
use lib.ListN.{length, take, drop}
use Rattle.vertices.specs.Grids.{with_second}
use Rattle.vertices.proofs.grid.raise.Given as goal

abbrev pub invariant-loop-i : goal.invariant-loop-i
invariant-loop-i l = (length l.row ≡ length l.initial.row) × (l.row ≡ with_second l.v (take (3 * l.i) l.initial.row) ++ drop (3 * l.i) l.initial.row)
