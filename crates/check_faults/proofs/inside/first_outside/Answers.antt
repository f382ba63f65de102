use native.Mathlib.Omega.{arith}
use mathlib.Core.Path.{refl}
use Rattle.check_faults.specs.Inside.{first_outside}
use Rattle.check_searches.proofs.Read.{points_count}
use Rattle.check_searches.proofs.First.{search_found, range_none}
use Rattle.check_faults.proofs.inside.first_outside.Goals as goal

pub returns-then-not-is_inside : goal.returns-then-not-is_inside
unfolding first_outside
returns-then-not-is_inside c = search_found (points_count c.args.points.now) c.loop-k.invariant
    (omega arith) (rw (← c.point_at.ensures, ← c.is_inside.ensures, c.if-not-is_inside.true) refl)

pub returns : goal.returns
unfolding first_outside
returns c = range_none (points_count c.args.points.now) c.loop-k.invariant (omega arith)
