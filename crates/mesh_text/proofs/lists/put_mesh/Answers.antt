use native.Mathlib.Omega.{arith}
use Rattle.buffer.proofs.Laws.{wrote_then}
use Rattle.mesh_text.proofs.lists.put_mesh.Goals as goal

pub returns : goal.returns
returns c =
    wrote_then (omega arith) (wrote_then (omega arith) c.put_drawn-a.ensures.wrote c.put_points-b.ensures.wrote) c.put_primitives.ensures.wrote
