use native.Mathlib.Omega.{arith}
use mathlib.Core.Path.{sym, ap}
use mathlib.Core.Bool.{Bool}
use lib.ListN.{length}
use Rattle.buffer.proofs.Laws.{count_start, count_fits, count_step, count_done, wrote_as}
use Rattle.check_searches.proofs.Read.{triangles_count}
use Rattle.compare_differences.specs.Lacking.{lacks}
use Rattle.compare_differences.specs.Meshes.{face_row, same_face}
use Rattle.compare_differences.specs.Differences.{words_if}
use Rattle.compare_lists.proofs.Passing.{passing_words}
use Rattle.compare_lists.proofs.list.write_faces.Goals as goal

pub loop-k-init : goal.loop-k-init
loop-k-init c =
    let m = c.args.side.mesh in
    let o = c.args.side.other in
    let e = passing_words 1 c.args.number (lacks same_face (face_row m.points.now m.indices.now) (face_row o.points.now o.indices.now)) _ _ (triangles_count m.indices.now) in
    count_start (omega (arith, ap length e, c.requires))

pub put_if-to-requires : goal.put_if-to-requires
put_if-to-requires c = rw c.lacks_face.ensures (count_fits (omega arith) c.loop-k.invariant)

pub loop-k-preserved : goal.loop-k-preserved
loop-k-preserved c =
    let l = c.loop-k in
    let number = c.args.number in
    count_step (omega arith) (wrote_as (λ (b : Bool). words_if 1 number b l.k) (sym c.lacks_face.ensures) c.put_if-to.ensures) l.invariant

pub returns : goal.returns
returns c =
    let m = c.args.side.mesh in
    let o = c.args.side.other in
    let e = passing_words 1 c.args.number (lacks same_face (face_row m.points.now m.indices.now) (face_row o.points.now o.indices.now)) _ _ (triangles_count m.indices.now) in
    rw e (count_done c.loop-k-test.false c.loop-k.invariant)
