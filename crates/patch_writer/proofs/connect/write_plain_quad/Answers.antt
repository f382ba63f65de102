use native.Mathlib.Omega.{arith}
use Rattle.buffer.proofs.Laws.{wrote_then}
use Rattle.strip.specs.Triangles.{indices}
use Rattle.patch_mesh.specs.Primitives.{triangles}
use Rattle.patch_writer.proofs.connect.write_plain_quad.Goals as goal

pub returns : goal.returns
unfolding triangles indices
returns c = wrote_then (omega arith) c.put_triangle-w.ensures c.put_triangle.ensures
