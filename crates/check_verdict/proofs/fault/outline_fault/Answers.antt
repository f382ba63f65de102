use native.Mathlib.Omega.{arith}
use Prim.Native.Nat.{◌*◌, ◌/◌}
use mathlib.Core.Path.{refl}
use lib.ListN.{length}
use Rattle.check_searches.proofs.Read.{points_count, triangles_count}
use Rattle.check_verdict.specs.declared.fault.Fault.TheVariants.{MissingPiece}
use Rattle.check_verdict.specs.Faults.{open_side, outline_fault}
use Rattle.check_verdict.proofs.Chain.{found, next}
use Rattle.check_verdict.proofs.fault.outline_fault.Goals as goal

pub returns-then-side-mesh : goal.returns-then-side-mesh
unfolding outline_fault
returns-then-side-mesh c =
    let n = triangles_count c.args.mesh.indices.now in
    found open_side _ c.first_open-side.ensures (omega arith) c.if-side-mesh.true

pub returns-then-piece-mesh : goal.returns-then-piece-mesh
unfolding outline_fault
returns-then-piece-mesh c =
    let a = c.args in
    let n = triangles_count a.mesh.indices.now in
    next _ {m = length a.mesh.indices.now / 3 * 3} c.first_open-side.ensures (omega arith) (omega arith)
    (found MissingPiece _ c.first_missing-piece.ensures (points_count a.mesh.outline.now) c.if-piece-mesh.true)

pub returns : goal.returns
unfolding outline_fault
returns c =
    let a = c.args in
    let n = triangles_count a.mesh.indices.now in
    next _ {m = length a.mesh.indices.now / 3 * 3} c.first_open-side.ensures (omega arith) (omega arith)
    (next _ c.first_missing-piece.ensures (points_count a.mesh.outline.now) c.if-piece-mesh.false refl)
