use Rattle.replay_entry.proofs.Drawings.{drawn_together}
use Rattle.replay_entry.proofs.patch_outcome.draw_patch.Goals as goal

pub returns : goal.returns
returns c =
    drawn_together c.args.settings c.args.patch c.requires.good_top
    c.draw_points.result c.draw_indices.result
    c.requires.full_size c.draw_points.ensures
    c.draw_indices.ensures c.of_drawn-drawn_points.ensures c.of_drawn-drawn_indices.ensures
