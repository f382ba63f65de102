use mathlib.Core.Path.{sym, ◌∙◌}
use Rattle.share_draw.proofs.Lent.{append_done}
use Rattle.share_draw.proofs.Counts.{point_words_lem}
use Rattle.share_draw.proofs.append.append_points.Goals as goal

pub returns : goal.returns
returns c =
    let a = c.args in
    append_done c.part_start-start.ensures c.share_of-share.ensures
    a.words (c.requires.count ∙ sym (point_words_lem a.settings a.patch))
    c.write_points.ensures c.with_used.ensures
