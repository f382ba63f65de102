use mathlib.Core.Path.{refl, sym, ◌∙◌}
use lib.Ieee.{nan}
use Rattle.level.specs.Discard.{discarded}
use Rattle.patch.proofs.Every.{some_here, some_past, some_none}
use Rattle.patch.proofs.subdivision.discards_any.Goals as goal

pub loop-k-init : goal.loop-k-init
loop-k-init c = refl

pub returns-then-discards : goal.returns-then-discards
returns-then-discards c =
    sym (c.loop-k.invariant ∙ some_here discarded c.args.outer.now c.loop-k.k nan c.loop-k-test.true (sym c.if-discards.ensures))

pub loop-k-preserved : goal.loop-k-preserved
loop-k-preserved c =
    c.loop-k.invariant ∙ some_past discarded c.args.outer.now c.loop-k.k nan c.loop-k-test.true (sym c.if-discards.ensures)

pub returns : goal.returns
returns c = sym (c.loop-k.invariant ∙ some_none discarded c.args.outer.now c.loop-k.k c.loop-k-test.false)
