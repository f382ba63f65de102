use Rattle.compare_meshes.proofs.Verdicts.{refused_left, refused_right, both_sound}
use Rattle.compare_meshes.proofs.tool.compare.Goals as goal

pub returns-in-Err : goal.returns-in-Err
returns-in-Err c = refused_left _ _ _ _ c.in-Err.ensures.verdict

pub returns-in-Err-sound_mesh : goal.returns-in-Err-sound_mesh
returns-in-Err-sound_mesh c = refused_right _ _ _ _ c.in-Ok.ensures.verdict c.in-Err-sound_mesh.ensures.verdict

pub returns : goal.returns
returns c =
    let l = c.in-Ok.ensures in
    let r = c.in-Ok-sound_mesh.ensures in
    both_sound _ _ _ _ _ l.verdict r.verdict (rw (l.words.0, l.words.1, r.words.0, r.words.1) at c.list_differences.ensures)
