use Rattle.buffer.proofs.Laws.{counting}
use Rattle.grid_indices.specs.Grids.{row_words}
use Rattle.grid_indices.proofs.Grids.{cell_length}
use Rattle.grid_indices.proofs.cells.write_row.Goals as goal

pub loop-c-init : goal.loop-c-init
unfolding row_words
loop-c-init c = search (cell_length, counting)

pub write_cell-to-requires-clause-room : goal.write_cell-to-requires-clause-room
write_cell-to-requires-clause-room c = search (cell_length, counting)

pub loop-c-preserved : goal.loop-c-preserved
loop-c-preserved c = search counting

pub returns : goal.returns
unfolding row_words
returns c = search counting
