use Rattle.std.proofs.Common.{rules}
use Rattle.std.proofs.lemmas.Result.{err_from_is_err_and}
use Rattle.patch_text.proofs.Drawn.{points_refused, indices_refused, printed}
use Rattle.patch_text.proofs.answer.draw_both.Goals as goal

pub returns-in_err-points-clause-refused : goal.returns-in_err-points-clause-refused
returns-in_err-points-clause-refused c =
    let p = err_from_is_err_and c.from_residual.result c.from_residual.ensures.1 in
    rw (p.1, p.2) (points_refused c.args.settings c.args.patch _ c.in_err-points.ensures c.requires)

pub returns-in_err-words-clause-refused : goal.returns-in_err-words-clause-refused
returns-in_err-words-clause-refused c =
    let r = c.from_residual-in_err-words in
    let p = err_from_is_err_and r.result r.ensures.1 in
    rw (p.1, p.2) (indices_refused c.args.settings c.args.patch _ c.in_err-words.ensures c.requires)

pub returns-clause-drawn : goal.returns-clause-drawn
returns-clause-drawn c = printed c.args.settings c.args.patch c.requires (search rules) (search rules) c.in_ok-points.ensures c.in_ok-words.ensures
