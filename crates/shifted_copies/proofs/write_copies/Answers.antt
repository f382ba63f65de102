use native.Mathlib.Omega.{arith}
use native.Mathlib.Nat.{mul-le-mul, mul-le-mul_right, add-mul}
use Prim.Native.Nat.{◌+◌, ◌≤◌}
use Rattle.shifted_copies.proofs.Shifts.{copying_start, copying_place, copying_step, copying_done}
use Rattle.shifted_copies.proofs.write_copies.Goals as goal

pub loop-r-init : goal.loop-r-init
loop-r-init c =
    let a = c.args in
    copying_start a.out.now a.at a.n a.k a.by (omega arith) (omega arith)

pub write_copy-to-requires-clause-apart : goal.write_copy-to-requires-clause-apart
write_copy-to-requires-clause-apart c =
    let a = c.args in
    let l = c.loop-r in
    let m = c.min-m.result in
    let r : l.r ≤ 64 = omega arith in
    let by : a.by ≤ 1024 = omega arith in
    let inside : m ≤ l.r = omega arith in
    let beyond : l.r + m ≤ a.k = omega arith in
    let place = copying_place a.out.now a.at a.n a.k a.by (omega arith) (omega arith) l.invariant in
    let same = l.invariant.left.same in
    (omega (arith, mul-le-mul_right a.n inside), omega (arith, mul-le-mul r by))

pub write_copy-to-requires-clause-room : goal.write_copy-to-requires-clause-room
write_copy-to-requires-clause-room c =
    let a = c.args in
    let l = c.loop-r in
    let m = c.min-m.result in
    let r : l.r ≤ 64 = omega arith in
    let by : a.by ≤ 1024 = omega arith in
    let inside : m ≤ l.r = omega arith in
    let beyond : l.r + m ≤ a.k = omega arith in
    let place = copying_place a.out.now a.at a.n a.k a.by (omega arith) (omega arith) l.invariant in
    let same = l.invariant.left.same in
    omega (arith, mul-le-mul_right a.n beyond, add-mul l.r m a.n)

pub loop-r-preserved : goal.loop-r-preserved
loop-r-preserved c =
    let a = c.args in
    let l = c.loop-r in
    let m = c.min-m in
    copying_step a.out.now a.at a.n a.k a.by (omega arith) (omega arith) l.invariant m.result (omega arith) (omega arith) (omega arith)
    c.write_copy-to.ensures

pub returns : goal.returns
returns c =
    let a = c.args in
    copying_done a.out.now a.at a.n a.k a.by (omega arith) (omega arith) c.loop-r.invariant c.loop-r-test.false
