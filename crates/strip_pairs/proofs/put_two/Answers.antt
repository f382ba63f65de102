use native.Mathlib.Omega.{arith}
use Rattle.buffer.proofs.Laws.{wrote_then}
use Rattle.strip.specs.Triangles.{indices}
use Rattle.strip_pairs.proofs.put_two.Goals as goal

pub returns : goal.returns
unfolding indices
returns c = wrote_then (omega arith) c.put_triangle-to.ensures c.put_triangle.ensures
