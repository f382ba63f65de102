use native.Mathlib.Omega.{arith}
use mathlib.Core.Path.{refl}
use Rattle.buffer.proofs.Laws.{left_all, left_none, left_last}
use Rattle.ring_indices.proofs.Nests.{nest_words_length, band_fits, band_written, nest_none, nest_one, one_triangle}
use Rattle.ring_indices.proofs.nest.write_nest.Goals as goal
use Rattle.ring_indices.proofs.nest.write_nest.Goals.{then-n-ge12+else-long-test, else-n-ge12}

pub long-init : goal.long-init
long-init c =
    let a = c.args in
    (omega arith, left_all refl (omega (arith, nest_words_length a.positive 0 a.c0 a.c1 a.c2 a.n)))

pub write_wide_band-to-requires-clause-room : goal.write_wide_band-to-requires-clause-room
write_wide_band-to-requires-clause-room c =
    let a = c.args in
    let l = c.long in
    let fits = band_fits a.positive l.ring.0 l.ring.1.0 l.ring.1.1.0 l.ring.1.1.1.0 l.left (omega arith) l.invariant.1 in
    fits

pub long-preserved : goal.long-preserved
long-preserved c =
    let a = c.args in
    let l = c.long in
    let i = c.inside-ring.ensures in
    let band = rw c.new-pattern.ensures at c.write_wide_band-to.ensures in
    (omega arith, rw (i.0, i.1, i.2, i.3) (band_written a.positive l.ring.0 l.ring.1.0 l.ring.1.1.0 l.ring.1.1.1.0 l.left (omega arith) band l.invariant.1))

pub loop-left-init : goal.loop-left-init
loop-left-init c =
    let a = c.args in
    elim c.if-n-ge12.branch [
      | then-n-ge12+else-long-test w ↦ rw (w.out-is, w.to-is, w.ring-is, w.left-is) w.long.invariant
      | else-n-ge12 w ↦
          rw (w.out-is, w.to-is, w.ring-is, w.left-is)
          (omega arith, left_all refl (omega (arith, nest_words_length a.positive 0 a.c0 a.c1 a.c2 a.n)))
    ]

pub write_band-to-requires-clause-room : goal.write_band-to-requires-clause-room
write_band-to-requires-clause-room c =
    let a = c.args in
    let l = c.loop-left in
    band_fits a.positive l.ring.0 l.ring.1.0 l.ring.1.1.0 l.ring.1.1.1.0 l.left (omega arith) l.invariant.1

pub loop-left-preserved : goal.loop-left-preserved
loop-left-preserved c =
    let a = c.args in
    let l = c.loop-left in
    let i = c.inside-ring-in-loop-left.ensures in
    (omega arith, rw (i.0, i.1, i.2, i.3) (band_written a.positive l.ring.0 l.ring.1.0 l.ring.1.1.0 l.ring.1.1.1.0 l.left (omega arith) c.write_band-to.ensures l.invariant.1))

pub returns-then-left-eq0 : goal.returns-then-left-eq0
returns-then-left-eq0 c =
    let a = c.args in
    let l = c.loop-left in
    left_none (nest_none a.positive l.ring.0 l.ring.1.0 l.ring.1.1.0 l.ring.1.1.1.0 l.left c.if-left-eq0.true) l.invariant.1

pub put_triangle-requires : goal.put_triangle-requires
put_triangle-requires c =
    let a = c.args in
    let l = c.loop-left in
    omega (arith, nest_words_length a.positive l.ring.0 l.ring.1.0 l.ring.1.1.0 l.ring.1.1.1.0 l.left, one_triangle l.ring.1.0 l.ring.1.1.0 l.ring.1.1.1.0 l.left (omega arith))

pub returns : goal.returns
returns c =
    let a = c.args in
    let l = c.loop-left in
    left_last (rw c.triangle.ensures at c.put_triangle.ensures) (nest_one a.positive l.ring.0 l.ring.1.0 l.ring.1.1.0 l.ring.1.1.1.0 l.left (omega arith)) l.invariant.1
