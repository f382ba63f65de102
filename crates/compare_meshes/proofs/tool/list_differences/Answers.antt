use native.Mathlib.Omega.{arith}
use mathlib.Core.Path.{refl}
use Rattle.compare_table_flags.proofs.Tables.{all_set}
use Rattle.compare_lists.proofs.Passing.{same_none}
use Rattle.compare_meshes.proofs.Verdicts.{listed_none}
use Rattle.compare_meshes.proofs.tool.list_differences.Goals as goal

pub returns-then-same_mesh : goal.returns-then-same_mesh
returns-then-same_mesh c =
    let e = c.same_mesh.ensures c.if-same_mesh.true in
    listed_none _ _ 0 (same_none _ _ _ _ e.0 e.1) refl

pub flag_meshes-requires-clause-left_set : goal.flag_meshes-requires-clause-left_set
flag_meshes-requires-clause-left_set c = (all_set 8192 (omega arith), all_set 8448 (omega arith))

pub flag_meshes-requires-clause-right_set : goal.flag_meshes-requires-clause-right_set
flag_meshes-requires-clause-right_set c = (all_set 8192 (omega arith), all_set 8448 (omega arith))
