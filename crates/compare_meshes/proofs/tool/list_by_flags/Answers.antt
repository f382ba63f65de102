use native.Mathlib.Omega.{arith}
use Rattle.compare_differences.specs.Meshes.{read_mesh}
use Rattle.compare_differences.specs.Differences.{differences}
use Rattle.compare_lists.proofs.Passing.{words_length}
use Rattle.compare_meshes.proofs.Verdicts.{listed_none}
use Rattle.compare_meshes.proofs.tool.list_by_flags.Goals as goal

pub returns-then-n-eq0 : goal.returns-then-n-eq0
returns-then-n-eq0 c = listed_none _ _ _ c.count_differences-n.ensures c.if-n-eq0.true

pub write_differences-requires-clause-room : goal.write_differences-requires-clause-room
write_differences-requires-clause-room c =
    let a = c.args in
    let l = read_mesh a.left.points.now a.left.indices.now in
    let r = read_mesh a.right.points.now a.right.indices.now in
    omega (arith, words_length (differences l r), c.count_differences-n.ensures, c.if-out-n.false)
