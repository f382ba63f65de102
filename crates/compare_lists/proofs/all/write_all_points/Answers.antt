use native.Mathlib.Omega.{arith}
use Rattle.buffer.proofs.Laws.{wrote_then}
use Rattle.compare_lists.proofs.all.write_all_points.Goals as goal

pub returns : goal.returns
returns c = wrote_then (omega arith) c.write_points-w.ensures
    (rw (c.requires.right_points, c.requires.left_points) at c.write_points.ensures)
