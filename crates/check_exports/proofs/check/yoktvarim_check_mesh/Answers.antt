use Rattle.check_exports.proofs.Calls.{check_refused, check_known}
use Rattle.check_exports.proofs.check.yoktvarim_check_mesh.Goals as goal

pub returns-in-Err : goal.returns-in-Err
returns-in-Err c =
    let a = c.args in
    check_refused c.say.ensures a.settings.now a.levels.now a.points.now a.indices.now c.in-Err.ensures c.from.ensures

pub returns-in-Ok : goal.returns-in-Ok
returns-in-Ok c =
    let a = c.args in
    check_known c.say-in-Ok.ensures a.settings.now a.levels.now a.points.now a.indices.now c.in-Ok.ensures c.check_mesh-verdict.ensures
    c.from-in-Ok.ensures
