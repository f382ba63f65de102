use native.Mathlib.Omega.{arith}
use Prim.Native.Nat.{ℕ, ◌+◌, ◌-◌, ◌*◌}
use mathlib.Core.Path.{ap, ◌∙◌, subst}
use Rattle.edge.proofs.Outward.{Outward, outward_more}
use Rattle.edge.proofs.Carries.{carries_reach}
use Rattle.edge.proofs.fill_row.Goals as goal

pub loop-left-preserved : goal.loop-left-preserved
loop-left-preserved c =
    let a = c.args in
    let s = a.s in
    let l = c.loop-left in
    let i = l.left - 1 in
    let d = s.count + 2 - 2 * l.left in
    let half = c.min-k.ensures ∙ carries_reach s.scaled d l.reach l.invariant.1 in
    let now = c.sum-reach.ensures in
    let step = c.divide-step.ensures in
    let o : Outward a.rows.now a.from s.count s.scaled (i + 1) l.rows =
    subst (λ (k : ℕ). Outward a.rows.now a.from s.count s.scaled k l.rows) (omega arith) l.invariant.2 in (
      omega arith,
      record { is = omega (arith, now.is, step.is, l.invariant.1.is); below = now.below },
      outward_more a.rows.now a.from s.count s.scaled l.rows i d _ _ (omega arith) (omega arith) (ap (λ (k : ℕ). 32768 - k) half) (ap (λ (k : ℕ). 32768 + k) half) o,
    )
