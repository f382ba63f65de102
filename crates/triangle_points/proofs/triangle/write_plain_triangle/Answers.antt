use native.Mathlib.Omega.{arith}
use Rattle.buffer.proofs.Laws.{wrote_then}
use Rattle.mesh_geometry.specs.Words.{vertex_words}
use Rattle.triangle_points.proofs.triangle.write_plain_triangle.Goals as goal

pub returns : goal.returns
unfolding vertex_words
returns c =
    let w0 = c.put3-w.ensures in
    let w1 = c.put3-w-2.ensures in
    let w2 = c.put3.ensures in
    wrote_then (omega arith) w0 (wrote_then (omega arith) w1 w2)
