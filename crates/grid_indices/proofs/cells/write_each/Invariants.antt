use Rattle.buffer.proofs.Laws.{Counting}
use Rattle.grid_indices.proofs.Grids.{grid_row}
use Rattle.grid_indices.proofs.cells.write_each.Given as goal

abbrev pub invariant-loop-r : goal.invariant-loop-r
invariant-loop-r l = Counting (grid_row l.positive l.grid.start l.grid.width l.grid.b) l.r l.grid.a l.out l.to l.initial.out l.at
