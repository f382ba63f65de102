use native.Mathlib.Omega.{arith}
use mathlib.Core.Path.{sym}
use Rattle.compare_differences.specs.Meshes.{face_row}
use Rattle.check_searches.proofs.Read.{points_count}
use Rattle.compare_differences.proofs.Lacks.{in_place_found, face_missing}
use Rattle.compare_differences.proofs.Numbers.{cornered}
use Rattle.compare_differences.proofs.side.lacks_face.Goals as goal

pub returns-then-is_in_place : goal.returns-then-is_in_place
returns-then-is_in_place c =
    let a = c.args in
    sym (in_place_found (face_row a.mesh.points.now a.mesh.indices.now) (face_row a.other.points.now a.other.indices.now) a.k (c.is_in_place.ensures c.if-is_in_place.true))

pub has_face-requires : goal.has_face-requires
has_face-requires c =
    let a = c.args in
    rw (c.triangle_at-t.ensures, ← points_count a.mesh.points.now) (cornered a.mesh.points.now a.mesh.indices.now c.args.mesh.sound.numbered
    (λ i. omega (arith, c.args.mesh.small i)) a.k c.requires)

pub returns : goal.returns
returns c =
    face_missing _ _ _ _ _ _ c.triangle_at-t.ensures _ c.has_face.ensures c.if-has_face.false c.args.mesh.sound
    (λ i. omega (arith, c.args.mesh.small i)) c.requires _
    c.has_triangle_in.ensures
