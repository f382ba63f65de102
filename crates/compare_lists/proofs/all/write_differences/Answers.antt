use mathlib.Core.Path.{refl, sym}
use mathlib.Core.List.{[], append-nil}
use Rattle.buffer.proofs.Laws.{left_fits, left_last}
use Rattle.compare_differences.specs.Meshes.{read_mesh}
use Rattle.compare_differences.specs.Differences.{left_faces, right_faces, words}
use Rattle.compare_lists.proofs.Parts.{points_fit, after_points, after_faces}
use Rattle.compare_lists.proofs.all.write_differences.Goals as goal

pub write_all_points-w-requires-clause-room : goal.write_all_points-w-requires-clause-room
write_all_points-w-requires-clause-room c =
    let l = read_mesh c.args.left.points.now c.args.left.indices.now in
    let r = read_mesh c.args.right.points.now c.args.right.indices.now in
    points_fit l r c.args.out.now c.requires.room

pub write_faces-w-requires : goal.write_faces-w-requires
write_faces-w-requires c =
    let l = read_mesh c.args.left.points.now c.args.left.indices.now in
    let r = read_mesh c.args.right.points.now c.args.right.indices.now in
    left_fits (words (left_faces l r)) (words (right_faces l r)) refl
    (after_points l r c.requires.room c.write_all_points-w.ensures)

pub write_faces-requires : goal.write_faces-requires
write_faces-requires c =
    let l = read_mesh c.args.left.points.now c.args.left.indices.now in
    let r = read_mesh c.args.right.points.now c.args.right.indices.now in
    left_fits (words (right_faces l r)) [] (sym (append-nil (words (right_faces l r))))
    (after_faces l r c.requires.room c.write_all_points-w.ensures
    c.write_faces-w.ensures)

pub returns : goal.returns
returns c =
    let l = read_mesh c.args.left.points.now c.args.left.indices.now in
    let r = read_mesh c.args.right.points.now c.args.right.indices.now in
    left_last c.write_faces.ensures refl (after_faces l r c.requires.room
    c.write_all_points-w.ensures
    c.write_faces-w.ensures)
