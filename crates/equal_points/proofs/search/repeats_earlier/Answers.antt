use mathlib.Core.Path.{sym}
use Rattle.equal_points.proofs.Table.{clear_new}
use Rattle.equal_points.proofs.search.repeats_earlier.Goals as goal

pub returns-then-is_clear : goal.returns-then-is_clear
returns-then-is_clear c =
    sym (clear_new _ _ _ _ _ c.requires.is_point c.requires.marked (c.is_clear.ensures c.if-is_clear.true))
