use lib.ListN.{length}
use Rattle.vertices.specs.Grids.{crossing}
use Rattle.vertices.proofs.Loops.{Rows}
use Rattle.vertices.proofs.grid.write_each.Given as goal

abbrev pub invariant-loop-v : goal.invariant-loop-v
invariant-loop-v l = Rows (crossing l.rows l.columns) (length l.columns) l.v-index (length l.rows) l.out l.to l.initial.out l.at
