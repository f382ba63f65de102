use native.Mathlib.Omega.{arith}
use Prim.Native.Nat.{◌+◌}
use Rattle.buffer.proofs.Laws.{wrote_then}
use Rattle.indices.proofs.Quads.{frame_length, quad_words}
use Rattle.indices.proofs.quad.Outline.write_quad.Goals as goal

pub write_cells-requires : goal.write_cells-requires
write_cells-requires c =
    let a = c.args in
    omega (arith, c.write_frame-w.auto.out, frame_length a.positive a.self.c0 a.self.c1 a.self.c2 a.self.c3 (a.self.c0 + a.self.c1 + a.self.c2 + a.self.c3) a.m a.n)

pub returns : goal.returns
returns c =
    let a = c.args in
    rw (quad_words a.positive a.self.c0 a.self.c1 a.self.c2 a.self.c3 a.m a.n) (wrote_then (omega arith)
    c.write_frame-w.ensures c.write_cells.ensures)
