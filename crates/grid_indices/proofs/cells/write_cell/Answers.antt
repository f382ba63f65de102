use native.Mathlib.Omega.{arith}
use Rattle.buffer.proofs.Laws.{wrote_then}
use Rattle.strip.specs.Triangles.{indices}
use Rattle.grid_indices.proofs.cells.write_cell.Goals as goal

pub returns : goal.returns
unfolding indices
returns c = wrote_then (omega arith) c.put_triangle-w.ensures c.put_triangle.ensures
