use native.Mathlib.Omega.{arith}
use Prim.Native.Nat.{◌/◌, ◌%◌}
use Rattle.check_faults.proofs.Turns.{numbered}
use Rattle.check_faults.proofs.Corners.{start_known, end_known}
use Rattle.check_faults.proofs.side.is_closed.Goals as goal

pub is_joined-requires-clause-start : goal.is_joined-requires-clause-start
is_joined-requires-clause-start c =
    let a = c.args in
    let n = numbered _ a.mesh.indices.now (a.m / 3) a.mesh.numbered (omega arith) in
    rw (c.start_of-x.ensures, c.triangle_at-t.ensures) (start_known _ _ (a.m % 3) n)

pub is_joined-requires-clause-end : goal.is_joined-requires-clause-end
is_joined-requires-clause-end c =
    let a = c.args in
    let n = numbered _ a.mesh.indices.now (a.m / 3) a.mesh.numbered (omega arith) in
    rw (c.end_of-y.ensures, c.triangle_at-t.ensures) (end_known _ _ (a.m % 3) n)
