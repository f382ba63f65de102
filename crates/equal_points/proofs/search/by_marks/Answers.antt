use native.Mathlib.Omega.{arith}
use mathlib.Core.Path.{◌≡◌, ◌∙◌, sym}
use lib.ListN.{length}
use Rattle.mesh_geometry.specs.Words.{read_points}
use Rattle.check_searches.specs.Points.{first_repeated}
use Rattle.check_searches.proofs.First.{first_at, first_none}
use Rattle.check_searches.proofs.Read.{points_count}
use Rattle.equal_points.proofs.search.by_marks.Goals as goal

pub returns-then-repeats_earlier : goal.returns-then-repeats_earlier
unfolding first_repeated
returns-then-repeats_earlier c =
    let l = c.loop-j in
    let xs = c.args.points.now in
    sym (first_at _ _ l.j (omega (arith, points_count xs)) l.invariant.0 (sym c.repeats_earlier.ensures ∙ c.if-repeats_earlier.true))

pub returns : goal.returns
unfolding first_repeated
returns c =
    let l = c.loop-j in
    let xs = c.args.points.now in
    let e : l.j ≡ length (read_points xs) = omega (arith, points_count xs) in
    sym (points_count xs) ∙ sym (first_none _ _ (rw e at l.invariant.0))
