use Prim.Native.Nat.{ℕ, ◌*◌}
use mathlib.Core.Path.{ap}
use native.Mathlib.Omega.{arith}
use Rattle.share_draw.proofs.Drawn.{ready_for, drew_both_lem}
use Rattle.share_draw.proofs.draw.draw.Goals as goal

pub overflow_cast-base : goal.overflow_cast-base
overflow_cast-base c =
    let a = c.args in
    let r = ready_for a.designer a.state a.settings a.patch a.vertices.now a.indices.now
    c.verdict_of-answer.result c.in-Ok.is
    c.verdict_of-answer.ensures in
    rw c.share_of-share.ensures (omega (arith, r.numbered))

pub append_points-next_vertices-requires : goal.append_points-next_vertices-requires
append_points-next_vertices-requires c =
    let a = c.args in
    let r = ready_for a.designer a.state a.settings a.patch a.vertices.now a.indices.now c.verdict_of-answer.result c.in-Ok.is c.verdict_of-answer.ensures in
    record { room = r.vertices; count = ap (λ (n : ℕ). 3 * n) r.points }

pub append_indices-next_indices-requires : goal.append_indices-next_indices-requires
append_indices-next_indices-requires c =
    let a = c.args in
    let r = ready_for a.designer a.state a.settings a.patch a.vertices.now a.indices.now c.verdict_of-answer.result c.in-Ok.is c.verdict_of-answer.ensures in
    record { room = r.indices; count = r.words; numbered = rw c.share_of-share.ensures r.numbered }

pub returns : goal.returns
returns c =
    let a = c.args in
    drew_both_lem a.designer a.state a.settings a.patch a.vertices.now a.indices.now c.verdict_of-answer.result c.in-Ok.is c.verdict_of-answer.ensures
    c.share_of-share.ensures c.append_points-next_vertices.ensures c.append_indices-next_indices.ensures
