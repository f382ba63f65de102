use native.Mathlib.Omega.{arith}
use mathlib.Core.Path.{refl, sym, ◌∙◌}
use Rattle.check_searches.proofs.First.{search_found, range_none}
use Rattle.check_searches.proofs.point.first_equal.Goals as goal

pub returns-then-lies_at : goal.returns-then-lies_at
returns-then-lies_at c = search_found refl c.loop-i.invariant (omega arith) (sym c.lies_at.ensures ∙ c.if-lies_at.true)

pub returns : goal.returns
returns c = range_none refl c.loop-i.invariant (omega arith)
