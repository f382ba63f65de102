use native.Mathlib.Omega.{arith}
use Prim.Native.Nat.{◌-◌}
use mathlib.Core.Path.{refl}
use lib.ListN.{length, take}
use Rattle.buffer.proofs.Laws.{left_all, left_fits, left_step}
use Rattle.mesh_geometry.specs.Words.{vertex_words}
use Rattle.mesh_geometry.proofs.Words.{words_length}
use Rattle.triangle_point_rows.specs.Rings.{ring_points, rings_of}
use Rattle.triangle_point_rows.proofs.Rings.{ring_then, ring_clear, next_inward}
use Rattle.triangle_point_rows.proofs.Wide.{laid_next}
use Rattle.triangle_point_rows.proofs.write_laid_rings.Goals as goal

pub loop-inner-init : goal.loop-inner-init
loop-inner-init c = (c.requires.inward, c.requires.laid, left_all refl (omega (arith, words_length (rings_of c.args.row.now))))

pub write_wide_ring-to-requires-clause-clear : goal.write_wide_ring-to-requires-clause-clear
write_wide_ring-to-requires-clause-clear c =
    let l = c.loop-inner in
    let inner = l.inner.now in
    let n = length inner - 1 in
    let fits = left_fits (vertex_words (ring_points (take n inner))) _ (ring_then inner n (omega arith) (omega arith) (omega arith)) l.invariant.2 in
    ring_clear inner n (omega arith) (omega arith) l.invariant.0

pub write_wide_ring-to-requires-clause-room : goal.write_wide_ring-to-requires-clause-room
write_wide_ring-to-requires-clause-room c =
    let l = c.loop-inner in
    let inner = l.inner.now in
    let n = length inner - 1 in
    let fits = left_fits (vertex_words (ring_points (take n inner))) _ (ring_then inner n (omega arith) (omega arith) (omega arith)) l.invariant.2 in
    omega (arith, words_length (ring_points (take n inner)))

pub loop-inner-preserved : goal.loop-inner-preserved
loop-inner-preserved c =
    let l = c.loop-inner in
    let inner = l.inner.now in (
      next_inward inner (omega arith) l.invariant.0,
      laid_next (omega arith) l.invariant.1,
      left_step c.write_wide_ring-to.ensures (ring_then inner (length inner - 1) (omega arith) (omega arith) (omega arith)) l.invariant.2,
    )

pub write_rings-requires-clause-room : goal.write_rings-requires-clause-room
write_rings-requires-clause-room c =
    let l = c.loop-inner in omega (arith, words_length (rings_of l.inner.now), l.invariant.2.place, l.invariant.2.room)
