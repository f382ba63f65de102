use native.Mathlib.Omega.{arith}
use mathlib.Core.Path.{sym}
use Rattle.check_searches.proofs.Read.{triangles_count}
use Rattle.compare_lists.proofs.Passing.{tally_start, tally_told, tally_done, flags_pass}
use Rattle.compare_lists.proofs.list.count_faces.Goals as goal

pub returns-in-Some : goal.returns-in-Some
returns-in-Some c =
    let side = c.args.side in
    flags_pass (side.told c.in-Some.flags c.in-Some.is).faces_told (sym (triangles_count side.mesh.indices.now)) c.count_set.ensures

pub loop-k-init : goal.loop-k-init
loop-k-init c = tally_start

pub loop-k-preserved : goal.loop-k-preserved
loop-k-preserved c = tally_told _ (omega arith) c.from-n.ensures c.lacks_face.ensures c.loop-k.invariant

pub returns : goal.returns
returns c = rw (triangles_count c.args.side.mesh.indices.now) (tally_done c.loop-k-test.false c.loop-k.invariant)
