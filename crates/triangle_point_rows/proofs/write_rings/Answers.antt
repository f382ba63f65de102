use native.Mathlib.Omega.{arith}
use Prim.Native.Nat.{◌-◌}
use mathlib.Core.Path.{refl, ap}
use lib.ListN.{length, take}
use Rattle.buffer.proofs.Laws.{left_all, left_fits, left_step, left_last}
use Rattle.mesh_geometry.specs.Words.{vertex_words}
use Rattle.mesh_geometry.proofs.Words.{words_length}
use Rattle.triangle_point_rows.specs.Rings.{ring_points, rings_of}
use Rattle.triangle_point_rows.proofs.Rings.{ring_then, ring_last, ring_clear, centre_last, next_inward}
use Rattle.triangle_point_rows.proofs.write_rings.Goals as goal

pub loop-inner-init : goal.loop-inner-init
loop-inner-init c = (c.requires.inward, left_all refl (omega (arith, words_length (rings_of c.args.row.now))))

pub write_ring-to-requires-clause-clear : goal.write_ring-to-requires-clause-clear
write_ring-to-requires-clause-clear c =
    let l = c.loop-inner in
    let inner = l.inner.now in
    let n = length inner - 1 - 0 in
    let ring = take n inner in
    let fits = left_fits (vertex_words (ring_points ring)) _ (ring_then inner n (omega arith) (omega arith) (omega arith)) l.invariant.1 in ring_clear inner n (omega arith) (omega arith) l.invariant.0

pub write_ring-to-requires-clause-room : goal.write_ring-to-requires-clause-room
write_ring-to-requires-clause-room c =
    let l = c.loop-inner in
    let inner = l.inner.now in
    let n = length inner - 1 - 0 in
    let ring = take n inner in
    let fits = left_fits (vertex_words (ring_points ring)) _ (ring_then inner n (omega arith) (omega arith) (omega arith)) l.invariant.1 in omega (arith, words_length (ring_points ring))

pub loop-inner-preserved : goal.loop-inner-preserved
loop-inner-preserved c =
    let l = c.loop-inner in
    let inner = l.inner.now in (
      next_inward inner (omega arith) l.invariant.0,
      left_step c.write_ring-to.ensures (ring_then inner (length inner - 1 - 0) (omega arith) (omega arith) (omega arith)) l.invariant.1,
    )

pub put3-requires : goal.put3-requires
put3-requires c = omega (arith, ap length (centre_last c.loop-inner.inner.now (omega arith)))

pub returns-then-inner-eq1 : goal.returns-then-inner-eq1
returns-then-inner-eq1 c =
    let l = c.loop-inner in
    left_last c.put3.ensures (centre_last l.inner.now (omega arith)) l.invariant.1

pub write_ring-requires-clause-room : goal.write_ring-requires-clause-room
write_ring-requires-clause-room c =
    let l = c.loop-inner in
    let inner = l.inner.now in
    let last = ap length (ring_last inner 1 (omega arith) (omega arith) (omega arith)) in omega (arith, words_length (ring_points (take 1 inner)))

pub returns : goal.returns
returns c =
    let l = c.loop-inner in
    left_last c.write_ring.ensures (ring_last l.inner.now 1 (omega arith) (omega arith) (omega arith)) l.invariant.1
