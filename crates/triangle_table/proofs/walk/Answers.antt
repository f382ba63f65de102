use native.Mathlib.Omega.{arith}
use mathlib.Core.Path.{◌≡◌, ◌∙◌, sym}
use Rattle.triangle_table.proofs.Walks.{seek_begins, seek_goes_on, seek_less, seek_meets, seek_ends}
use Rattle.triangle_table.proofs.walk.Goals as goal

pub loop-k-init : goal.loop-k-init
loop-k-init c = seek_begins _ _ _ _ c.requires.begins

pub returns-then-is_at : goal.returns-then-is_at
returns-then-is_at c = seek_meets _ _ _ c.loop-k.k (omega arith) c.loop-k.invariant (sym c.is_at.ensures ∙ c.if-is_at.true)

pub loop-k-smaller : goal.loop-k-smaller
loop-k-smaller c = rw c.before_in-k.ensures (seek_less c.requires.linked _ _
    (omega (arith, c.requires.in_range)) c.loop-k.k
    (omega arith) c.loop-k.invariant)

pub loop-k-preserved : goal.loop-k-preserved
loop-k-preserved c = rw c.before_in-k.ensures (seek_goes_on c.requires.linked _ _
    (omega (arith, c.requires.in_range)) c.loop-k.k
    (omega arith) c.loop-k.invariant (sym c.is_at.ensures ∙ c.if-is_at.false))

pub returns : goal.returns
returns c =
    let e : c.loop-k.k ≡ 0 = omega arith in
    seek_ends _ _ _ (rw e at c.loop-k.invariant)
