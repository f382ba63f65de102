use native.Mathlib.Omega.{arith}
use mathlib.Core.Path.{refl}
use Rattle.check_searches.proofs.First.{search_found, range_none}
use Rattle.check_side_searches.proofs.pair.first_sharing.Goals as goal

pub returns-then-share_side : goal.returns-then-share_side
returns-then-share_side c = search_found refl c.loop-i.invariant (omega arith) (rw (← c.triangle_at.ensures, ← c.share_side.ensures) c.if-share_side.true)

pub returns : goal.returns
returns c = range_none refl c.loop-i.invariant (omega arith)
