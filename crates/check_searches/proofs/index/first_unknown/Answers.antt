use borrow.Author.Tests.{le-leb}
use native.Mathlib.Omega.{arith}
use mathlib.Core.Path.{refl}
use Rattle.check_searches.specs.Indices.{first_unknown_index}
use Rattle.check_searches.proofs.First.{search_found, range_none}
use Rattle.check_searches.proofs.index.first_unknown.Goals as goal

pub returns-then-count-x : goal.returns-then-count-x
unfolding first_unknown_index
returns-then-count-x c = search_found refl c.loop-k.invariant (omega arith) (le-leb _ _ c.if-count-x.true)

pub returns : goal.returns
unfolding first_unknown_index
returns c = range_none refl c.loop-k.invariant (omega arith)
