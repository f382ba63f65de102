use native.Mathlib.Omega.{arith}
use mathlib.Core.Path.{refl, sym, ◌∙◌}
use Rattle.point_table.proofs.Trees.{passed_none, passed_more, sought_at, sought_empty}
use Rattle.point_table.proofs.seek.Goals as goal

pub loop-k-init : goal.loop-k-init
loop-k-init c =
    let s = c.slot_of-x in
    (passed_none _ _ _ _ s.result s.ensures.slot, refl, omega (arith, s.ensures.below), c.requires.filled.most s.result)

pub returns-then-lies_at : goal.returns-then-lies_at
returns-then-lies_at c =
    let l = c.loop-k in
    sought_at l.invariant.0 l.invariant.2 l.k l.invariant.1 (omega arith) (sym c.lies_at.ensures ∙ c.if-lies_at.true)

pub loop-k-preserved : goal.loop-k-preserved
loop-k-preserved c =
    let l = c.loop-k in
    let g = c.requires.filled in
    let b = c.next_bit in (
      passed_more _ _ _ _ l.k b.result l.invariant.0 l.invariant.1 (omega arith)
          (sym c.lies_at.ensures ∙ c.if-lies_at.false) c.turn-rest.ensures b.ensures.0,
      refl,
      omega (arith, l.invariant.3, b.ensures.1),
      g.most _,
    )

pub returns : goal.returns
returns c =
    let l = c.loop-k in
    sought_empty l.invariant.0 l.invariant.2 c.requires.filled (omega (arith, l.invariant.1))
