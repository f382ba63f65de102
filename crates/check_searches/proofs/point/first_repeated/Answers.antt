use native.Mathlib.Omega.{arith}
use mathlib.Core.Path.{sym, ◌∙◌}
use Rattle.check_searches.specs.Points.{first_repeated}
use Rattle.check_searches.proofs.First.{search_found, range_none}
use Rattle.check_searches.proofs.Read.{points_count}
use Rattle.check_searches.proofs.point.first_repeated.Goals as goal

pub returns-then-is_repeated : goal.returns-then-is_repeated
unfolding first_repeated
returns-then-is_repeated c = search_found (points_count c.args.points.now) c.loop-j.invariant (omega arith)
    (sym c.is_repeated.ensures ∙ c.if-is_repeated.true)

pub returns : goal.returns
unfolding first_repeated
returns c = range_none (points_count c.args.points.now) c.loop-j.invariant (omega arith)
