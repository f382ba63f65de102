use native.Mathlib.Omega.{arith}
use Prim.Native.Nat.{◌+◌, ◌-◌}
use mathlib.Core.Path.{refl}
use mathlib.Core.List.{[], ◌∷◌}
use Rattle.mesh_topology.specs.Ring.{ring_at}
use Rattle.mesh_topology.specs.Band.{from, Edge}
use Rattle.mesh_topology.specs.Quad.{grid_at}
use Rattle.ring_indices.proofs.Bands.{side_next, band_step, band_last}
use Rattle.indices.proofs.quad.Outline.write_frame.Goals as goal

pub write_strip-w-requires-2-clause-room : goal.write_strip-w-requires-2-clause-room
write_strip-w-requires-2-clause-room c =
    let a = c.args in
    let F = ring_at 0 (a.self.c0 + a.self.c1 + a.self.c2 + a.self.c3) in
    let first = rw c.left.ensures.count at (side_next a.positive (from 0 F) a.self.c0 c.left.result c.write_strip-w.ensures) in
    omega (arith, c.requires, first, c.write_strip-w.auto.out, c.bottom.ensures.count)

pub write_strip-w-requires-3-clause-room : goal.write_strip-w-requires-3-clause-room
write_strip-w-requires-3-clause-room c =
    let a = c.args in
    let F = ring_at 0 (a.self.c0 + a.self.c1 + a.self.c2 + a.self.c3) in
    let first = rw c.left.ensures.count at (side_next a.positive (from 0 F) a.self.c0 c.left.result c.write_strip-w.ensures) in
    let second = rw c.bottom.ensures.count at (side_next a.positive (from a.self.c0 F) a.self.c1 c.bottom.result c.write_strip-w-2.ensures) in
    omega (arith, c.requires, first, c.write_strip-w.auto.out, second, c.write_strip-w-2.auto.out, c.right.ensures.count)

pub write_strip-requires-clause-room : goal.write_strip-requires-clause-room
write_strip-requires-clause-room c =
    let a = c.args in
    let F = ring_at 0 (a.self.c0 + a.self.c1 + a.self.c2 + a.self.c3) in
    let first = rw c.left.ensures.count at (side_next a.positive (from 0 F) a.self.c0 c.left.result c.write_strip-w.ensures) in
    let second = rw c.bottom.ensures.count at (side_next a.positive (from a.self.c0 F) a.self.c1 c.bottom.result c.write_strip-w-2.ensures) in
    let third = rw c.right.ensures.count at (side_next a.positive (from (a.self.c0 + a.self.c1) F) a.self.c2 c.right.result c.write_strip-w-3.ensures) in
    omega (arith, c.requires, first, c.write_strip-w.auto.out, second, c.write_strip-w-2.auto.out, third, c.write_strip-w-3.auto.out, c.top.ensures.count)

pub returns : goal.returns
returns c =
    let a = c.args in
    let g = a.grid in
    let P = grid_at g.start g.width in
    let F = ring_at 0 (a.self.c0 + a.self.c1 + a.self.c2 + a.self.c3) in
    let first = rw c.left.ensures.count at (side_next a.positive (from 0 F) a.self.c0 c.left.result c.write_strip-w.ensures) in
    let second = rw c.bottom.ensures.count at (side_next a.positive (from a.self.c0 F) a.self.c1 c.bottom.result c.write_strip-w-2.ensures) in
    let e0 : Edge = record { p = a.self.c0; r = g.a; line = λ k. P (g.a - k) 0 } in
    let e1 : Edge = record { p = a.self.c1; r = g.b; line = λ k. P 0 k } in
    let e2 : Edge = record { p = a.self.c2; r = g.a; line = λ k. P k g.b } in
    let e3 : Edge = record { p = a.self.c3; r = g.b; line = λ k. P g.a (g.b - k) } in
    let l0 = c.left in
    let l1 = c.bottom in
    let l2 = c.right in
    let l3 = c.top in
    band_step a.positive F 0 0 e0 l0.result refl l0.ensures (e1 ∷ e2 ∷ e3 ∷ []) (omega (arith, c.requires)) c.write_strip-w.ensures
    (band_step a.positive F a.self.c0 (0 + a.self.c0) e1 l1.result (omega arith) l1.ensures (e2 ∷ e3 ∷ [])
    (omega (arith, c.requires, first, c.write_strip-w.auto.out)) c.write_strip-w-2.ensures
    (band_step a.positive F (a.self.c0 + a.self.c1) (0 + a.self.c0 + a.self.c1) e2 l2.result (omega arith) l2.ensures (e3 ∷ [])
    (omega (arith, c.requires, first, second, c.write_strip-w.auto.out, c.write_strip-w-2.auto.out)) c.write_strip-w-3.ensures
    (band_last a.positive F (a.self.c0 + a.self.c1 + a.self.c2) (0 + a.self.c0 + a.self.c1 + a.self.c2) e3 l3.result (omega arith) l3.ensures c.write_strip.ensures)))
