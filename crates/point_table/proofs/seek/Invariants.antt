use Prim.Native.Nat.{◌+◌, ◌*◌, ◌-◌, ◌≤◌, ◌<◌}
use mathlib.Core.Path.{◌≡◌}
use lib.ListN.{length, get_or}
use Rattle.mesh_geometry.specs.Words.{read_points}
use Rattle.point_table.proofs.Trees.{Passed}
use Rattle.point_table.proofs.seek.Given as goal

abbrev pub invariant-loop-k : goal.invariant-loop-k
invariant-loop-k l = Passed (read_points l.points) l.table l.slots l.p l.rest l.x × (l.k ≡ get_or l.table l.x 0) × (l.x < l.slots + 2 * l.count) × (l.k ≤ l.count)

abbrev pub decreases-loop-k : goal.decreases-loop-k
decreases-loop-k l = length l.table - l.x
