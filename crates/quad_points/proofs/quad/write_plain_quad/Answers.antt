use native.Mathlib.Omega.{arith}
use Rattle.buffer.proofs.Laws.{wrote_then}
use Rattle.mesh_geometry.specs.Words.{vertex_words}
use Rattle.quad_points.proofs.quad.write_plain_quad.Goals as goal

pub returns : goal.returns
unfolding vertex_words
returns c =
    let w0 = c.put3-w.ensures in
    let w1 = c.put3-w-2.ensures in
    let w2 = c.put3-w-3.ensures in
    let w3 = c.put3.ensures in
    wrote_then (omega arith) w0 (wrote_then (omega arith) w1 (wrote_then (omega arith) w2 w3))
