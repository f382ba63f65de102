use mathlib.Core.Path.{sym, ◌∙◌}
use Rattle.share_draw.proofs.Lent.{append_done}
use Rattle.share_draw.proofs.Counts.{index_words_lem}
use Rattle.share_draw.proofs.append.append_indices.Goals as goal

pub returns : goal.returns
returns c =
    let a = c.args in
    append_done c.part_start-start.ensures c.share_of-share.ensures a.words (c.requires.count ∙ sym (index_words_lem a.base a.settings a.patch))
    c.write_indices.ensures c.with_used.ensures
