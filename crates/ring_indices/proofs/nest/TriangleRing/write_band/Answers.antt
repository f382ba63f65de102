use native.Mathlib.Omega.{arith}
use Prim.Native.Nat.{◌+◌, ◌*◌}
use mathlib.Core.Path.{refl}
use mathlib.Core.List.{[], ◌∷◌}
use Rattle.mesh_topology.specs.Ring.{ring_at}
use Rattle.mesh_topology.specs.Band.{from}
use Rattle.mesh_topology.specs.Nest.{ring_edge}
use Rattle.ring_indices.proofs.Rings.{follows_from}
use Rattle.ring_indices.proofs.Bands.{side_next, band_step, band_last}
use Rattle.ring_indices.proofs.nest.TriangleRing.write_band.Goals as goal

pub write_strip-w-requires-2-clause-room : goal.write_strip-w-requires-2-clause-room
write_strip-w-requires-2-clause-room c =
    let a = c.args in
    omega (
      arith,
      side_next a.positive (from 0 (ring_at a.self.base (a.self.c0 + a.self.c1 + a.self.c2))) a.self.c0 c.line.result
          c.write_strip-w.ensures,
      c.write_strip-w.auto.out,
      c.line.ensures.count,
      c.line-2.ensures.count,
    )

pub write_strip-requires-clause-room : goal.write_strip-requires-clause-room
write_strip-requires-clause-room c =
    let a = c.args in
    omega (
      arith,
      side_next a.positive (from 0 (ring_at a.self.base (a.self.c0 + a.self.c1 + a.self.c2))) a.self.c0
          c.line.result
          c.write_strip-w.ensures,
      c.write_strip-w.auto.out,
      c.line.ensures.count,
      side_next a.positive
          (from a.self.c0 (ring_at a.self.base (a.self.c0 + a.self.c1 + a.self.c2))) a.self.c1 c.line-2.result
          c.write_strip-w-2.ensures,
      c.write_strip-w-2.auto.out,
      c.line-2.ensures.count,
      c.requires.few,
      c.requires.room,
      c.line-3.ensures.count,
    )

pub returns : goal.returns
returns c =
    let a = c.args in
    let total = a.self.c0 + a.self.c1 + a.self.c2 in
    let inner = a.self.base + total in
    let F = ring_at a.self.base total in
    let G = ring_at inner (3 * a.r) in
    let e0 = ring_edge inner a.r 0 a.self.c0 in
    let e1 = ring_edge inner a.r 1 a.self.c1 in
    let e2 = ring_edge inner a.r 2 a.self.c2 in
    let l0 = c.line in
    let l1 = c.line-2 in
    let l2 = c.line-3 in
    let s0 = c.write_strip-w in
    let s1 = c.write_strip-w-2 in
    band_step a.positive F 0 0 e0 l0.result refl (follows_from G 0 (0 * a.r) a.r (omega arith) l0.ensures) (e1 ∷ e2 ∷ [])
    (omega (
      arith,
      c.requires.room,
    )) s0.ensures
    (band_step a.positive F a.self.c0 (0 + a.self.c0) e1 l1.result (omega arith) (follows_from G a.r (1 * a.r) a.r (omega arith) l1.ensures) (e2 ∷ [])
    (omega (
      arith,
      side_next a.positive (from 0 F) a.self.c0 l0.result s0.ensures,
      s0.auto.out,
      l0.ensures.count,
      c.requires.room,
    ))
    s1.ensures
    (band_last a.positive F (a.self.c0 + a.self.c1) (0 + a.self.c0 + a.self.c1) e2 l2.result (omega arith) l2.ensures c.write_strip.ensures))
