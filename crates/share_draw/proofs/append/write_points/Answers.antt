use Rattle.measure.specs.Sizes.{points_of}
use Rattle.tessellate.specs.Draws.{point_words}
use Rattle.share_draw.proofs.Lent.{lent_on}
use Rattle.share_draw.proofs.Counts.{point_words_lem}
use Rattle.share_draw.proofs.append.write_points.Goals as goal

pub returns : goal.returns
returns c =
    let a = c.args in
    lent_on c.requires (point_words a.settings a.patch) (point_words_lem a.settings a.patch) 3
    (points_of a.settings a.patch) c.draw_points.ensures
