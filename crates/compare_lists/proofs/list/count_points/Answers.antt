use native.Mathlib.Omega.{arith}
use mathlib.Core.Path.{sym}
use Rattle.check_searches.proofs.Read.{points_count}
use Rattle.compare_lists.proofs.Passing.{tally_start, tally_told, tally_done, flags_pass}
use Rattle.compare_lists.proofs.list.count_points.Goals as goal

pub returns-in-Some : goal.returns-in-Some
returns-in-Some c =
    let side = c.args.side in
    flags_pass (side.told c.in-Some.flags c.in-Some.is).points_told (sym (points_count side.mesh.points.now)) c.count_set.ensures

pub loop-k-init : goal.loop-k-init
loop-k-init c = tally_start

pub loop-k-preserved : goal.loop-k-preserved
loop-k-preserved c = tally_told _ (omega arith) c.from-n.ensures c.lacks_point.ensures c.loop-k.invariant

pub returns : goal.returns
returns c = rw (points_count c.args.side.mesh.points.now) (tally_done c.loop-k-test.false c.loop-k.invariant)
