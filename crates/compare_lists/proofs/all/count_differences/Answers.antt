use native.Mathlib.Omega.{arith}
use Rattle.compare_differences.specs.Meshes.{read_mesh}
use Rattle.compare_lists.proofs.Passing.{Few, few}
use Rattle.compare_lists.proofs.Parts.{parts_count}
use Rattle.compare_lists.proofs.all.count_differences.Goals as goal

pub overflow_add-result : goal.overflow_add-result
overflow_add-result c = let f : Few c.args.left.points.now c.args.left.indices.now c.args.right.points.now c.args.right.indices.now = few _ _ _ _ in omega arith

pub overflow_add-result-2 : goal.overflow_add-result-2
overflow_add-result-2 c = let f : Few c.args.left.points.now c.args.left.indices.now c.args.right.points.now c.args.right.indices.now = few _ _ _ _ in omega arith

pub overflow_add-result-3 : goal.overflow_add-result-3
overflow_add-result-3 c = let f : Few c.args.left.points.now c.args.left.indices.now c.args.right.points.now c.args.right.indices.now = few _ _ _ _ in omega arith

pub returns : goal.returns
returns c =
    let a = c.args in
    let l = read_mesh a.left.points.now a.left.indices.now in
    let r = read_mesh a.right.points.now a.right.indices.now in
    omega (arith, parts_count l r, c.count_faces-n3.ensures, c.count_faces-n2.ensures, c.count_points-n1.ensures, c.count_points-n0.ensures)
