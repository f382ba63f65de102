use borrow.Author.Tests.{eq-eqb, ne_eqb}
use Rattle.level.specs.Segments.{as_inner}
use Rattle.level.proofs.as_inner.Goals as goal

pub returns-then-own-eq1 : goal.returns-then-own-eq1
unfolding as_inner
returns-then-own-eq1 c = rw (eq-eqb _ _ c.if-own-eq1.true, c.raised.ensures)

pub returns-else-own-eq1 : goal.returns-else-own-eq1
unfolding as_inner
returns-else-own-eq1 c = rw (ne_eqb _ _ c.if-own-eq1.false)
