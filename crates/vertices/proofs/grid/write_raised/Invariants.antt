use Prim.Native.Nat.{ℕ}
use mathlib.Core.Path.{◌≡◌}
use lib.ListN.{length}
use Rattle.mesh_geometry.specs.Words.{vertex_words}
use Rattle.vertices.specs.Grids.{crossing, row_points, with_second}
use Rattle.vertices.proofs.Loops.{Rows}
use Rattle.vertices.proofs.grid.write_raised.Given as goal

abbrev pub invariant-loop-v : goal.invariant-loop-v
invariant-loop-v l =
    Rows (crossing l.rows l.columns) (length l.columns) l.v-index (length l.rows) l.out l.to l.initial.out l.at
    × ((v : ℕ) → with_second v l.row ≡ vertex_words (row_points l.columns v))
