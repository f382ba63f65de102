use native.Mathlib.Omega.{arith}
use mathlib.Core.Path.{refl}
use Rattle.buffer.proofs.Laws.{count_begin, count_room, count_step, count_done}
use Rattle.shifted_copies.proofs.Again.{wrote_whole}
use Rattle.triangle_point_rows.proofs.Eights.{sums_size}
use Rattle.triangle_point_rows.proofs.Shift.eight.Goals as goal

pub loop-i-init : goal.loop-i-init
loop-i-init c = count_begin 3 (λ j. refl) (omega arith)

pub put3-to-requires : goal.put3-to-requires
put3-to-requires c = count_room c.loop-i.invariant (omega arith) (λ j. refl)

pub loop-i-preserved : goal.loop-i-preserved
loop-i-preserved c =
    count_step (omega arith) c.put3-to.ensures c.loop-i.invariant

pub returns : goal.returns
returns c =
    let a = c.args in
    wrote_whole (sums_size a.base.now a.from a.self.u a.self.v a.self.w 0 8) (count_done c.loop-i-test.false c.loop-i.invariant)
