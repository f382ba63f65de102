use native.Mathlib.Omega.{arith}
use Prim.Native.Nat.{◌-◌, ◌*◌, ◌/◌}
use mathlib.Core.Path.{refl}
use Rattle.triangle_point_rows.proofs.Eights.{run_wrote}
use Rattle.triangle_point_rows.proofs.Shift.write_run.Goals as goal

pub returns : goal.returns
returns c =
    let a = c.args in
    let k = (a.n - 1) / 8 in
    run_wrote a.base.now a.from a.self.u a.self.v a.self.w a.n k (a.n - 8 * k) (omega arith) (omega arith) (omega arith) (omega arith)
    c.write_eight.ensures refl c.write_eights.ensures
