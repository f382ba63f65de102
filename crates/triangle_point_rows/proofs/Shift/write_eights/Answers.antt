use native.Mathlib.Omega.{arith}
use Prim.Native.Nat.{◌+◌, ◌*◌}
use Rattle.buffer.proofs.Laws.{count_begin, count_room, count_step, count_done}
use Rattle.triangle_point_rows.proofs.Eights.{sums_size, eights}
use Rattle.triangle_point_rows.proofs.Shift.write_eights.Goals as goal

pub loop-i-init : goal.loop-i-init
loop-i-init c =
    let a = c.args in
    count_begin 24 (λ j. sums_size a.base.now (a.from + 24 * j) a.self.u a.self.v a.self.w 0 8) (omega arith)

pub write_eight-to-requires-clause-room : goal.write_eight-to-requires-clause-room
write_eight-to-requires-clause-room c =
    let a = c.args in count_room c.loop-i.invariant (omega arith) (λ j. sums_size a.base.now (a.from + 24 * j) a.self.u a.self.v a.self.w 0 8)

pub loop-i-preserved : goal.loop-i-preserved
loop-i-preserved c = count_step (omega arith) c.write_eight-to.ensures c.loop-i.invariant

pub returns : goal.returns
returns c =
    let a = c.args in
    rw (← eights a.base.now a.from a.self.u a.self.v a.self.w a.k) (count_done c.loop-i-test.false c.loop-i.invariant)
