use native.Mathlib.Omega.{arith}
use Prim.Native.Nat.{◌+◌, ◌*◌}
use mathlib.Core.List.{[], ◌∷◌}
use Rattle.mesh_topology.specs.Ring.{ring_at}
use Rattle.mesh_topology.specs.Nest.{ring_edge}
use Rattle.strip_blocks.specs.Blocks.{on, line_of}
use Rattle.ring_indices.proofs.Rings.{line_closed}
use Rattle.ring_indices.proofs.Bands.{on_ring, three_strips}
use Rattle.strip.specs.Triangles.{indices}
use Rattle.strip.specs.Strips.{step_triangle}
use Rattle.strip.proofs.Strips.{indices_length, strip_same}
use Rattle.strip_blocks.proofs.Blocks.{open_next}
use Rattle.mesh_topology.specs.Band.{from}
use mathlib.Core.Bool.{false}
use Rattle.ring_indices.proofs.nest.write_long_band.Goals as goal

pub write_open-w-requires-2-clause-room : goal.write_open-w-requires-2-clause-room
write_open-w-requires-2-clause-room c =
    let a = c.args in
    let r = a.r in
    let x0 = a.base in
    let x1 = a.base + (r + 2) in
    let y0 = a.base + 3 * (r + 2) in
    let y1 = y0 + r in
    let l = c.write_open-w in
    omega (arith, open_next a.pattern.now.positive x0 y0 r (omega arith) l.ensures, l.auto.out)

pub write_long-requires-clause-room : goal.write_long-requires-clause-room
write_long-requires-clause-room c =
    let a = c.args in
    let r = a.r in
    let x0 = a.base in
    let x1 = a.base + (r + 2) in
    let y0 = a.base + 3 * (r + 2) in
    let y1 = y0 + r in
    let k = c.write_open-w in
    let l = c.write_open-w-2 in
    omega (arith, open_next a.pattern.now.positive x0 y0 r (omega arith) k.ensures, k.auto.out, open_next a.pattern.now.positive x1 y1 r (omega arith) l.ensures, l.auto.out)

pub returns : goal.returns
returns c =
    let a = c.args in
    let base = a.base in
    let r = a.r in
    let p = r + 2 in
    let total = p + p + p in
    let F = ring_at base total in
    let inner = base + total in
    let e0 = ring_edge inner r 0 p in
    let e1 = ring_edge inner r 1 p in
    let e2 = ring_edge inner r 2 p in
    let x0 = base in
    let x1 = base + p in
    let x2 = base + 2 * p in
    let y0 = base + 3 * p in
    let y1 = y0 + r in
    let y2 = y0 + 2 * r in
    let s0 = c.write_open-w in
    let s1 = c.write_open-w-2 in
    let s2 = c.write_long in
    let G0 = indices a.pattern.now.positive (step_triangle (on x0) (on y0) false (r + 2) r ∷ []) in
    let G1 = indices a.pattern.now.positive (step_triangle (on x1) (on y1) false (r + 2) r ∷ []) in
    let g0 = indices_length a.pattern.now.positive (step_triangle (on x0) (on y0) false (r + 2) r ∷ []) in
    let g1 = indices_length a.pattern.now.positive (step_triangle (on x1) (on y1) false (r + 2) r ∷ []) in
    let n0 = open_next a.pattern.now.positive x0 y0 r (omega arith) s0.ensures in
    let n1 = open_next a.pattern.now.positive x1 y1 r (omega arith) s1.ensures in
    three_strips a.pattern.now.positive F p r e0 e1 e2 (on x0) (on y0) (on x1) (on y1) (line_of x2 p x0) (line_of y2 r y0) G0 G1 (omega arith)
    (omega (arith, s0.auto.out)) (omega arith) (omega arith) (omega arith)
    (strip_same (on x0) (from 0 F) (on y0) e0.line p r (λ i h. on_ring base total 0 x0 i (omega arith) (omega arith) (omega arith))
    (λ i h. on_ring inner (3 * r) (0 * r) y0 i (omega arith) (omega arith) (omega arith)))
    (strip_same (on x1) (from (0 + p) F) (on y1) e1.line p r (λ i h. on_ring base total (0 + p) x1 i (omega arith) (omega arith) (omega arith))
    (λ i h. on_ring inner (3 * r) (1 * r) y1 i (omega arith) (omega arith) (omega arith)))
    (strip_same (line_of x2 p x0) (from (0 + p + p) F) (line_of y2 r y0) e2.line p r (line_closed base total (0 + p + p) p x2 x0 (omega arith) (omega arith) (omega arith) (omega arith))
    (line_closed inner (3 * r) (2 * r) r y2 y0 (omega arith) (omega arith) (omega arith) (omega arith)))
    s0.ensures (omega arith) s1.ensures (omega arith) s2.ensures
