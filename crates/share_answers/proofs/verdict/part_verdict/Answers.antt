use Rattle.std.proofs.lemmas.Result.{err_from_is_err_and}
use Rattle.measure.proofs.Measured.{is_measured}
use Rattle.share_state.proofs.Sound.{state_facts, lies}
use Rattle.share_answers.proofs.Measured.{says_discarded, is_counted, part_says}
use Rattle.share_answers.proofs.verdict.part_verdict.Goals as goal

pub returns-in_err-size : goal.returns-in_err-size
returns-in_err-size c =
    let a = c.args in
    let p = err_from_is_err_and c.from_residual.result c.from_residual.ensures.1 in
    rw (p.1, p.2) (says_discarded a.settings a.patch c.requires.good_top (is_measured a.settings a.patch c.in_err-size.ensures) _ _ _)

pub room-requires : goal.room-requires
room-requires c =
    let d = c.args.designer in
    let f = state_facts c.args.state c.requires.good_state in
    record { vertices_within = rw c.share_of.ensures (lies d f.vertices).used; indices_within = rw c.share_of-2.ensures (lies d f.indices).used }

pub returns : goal.returns
returns c =
    let a = c.args in
    let k = is_counted a.settings a.patch c.requires.good_top (is_measured a.settings a.patch c.in_ok-size.ensures) in
    part_says a.settings a.patch c.share_of.ensures c.share_of-2.ensures k c.room.ensures
