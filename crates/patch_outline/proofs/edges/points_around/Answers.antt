use mathlib.Core.Path.{sym}
use Rattle.patch_outline.proofs.Around.{both_are, around_as, three_around, four_around}
use Rattle.patch_outline.proofs.edges.points_around.Goals as goal

pub returns-in-Triangle : goal.returns-in-Triangle
returns-in-Triangle c =
    around_as (both_are c.in-Some.is c.in-Triangle.is) (sym (three_around _ _ _))

pub returns-in-Quad : goal.returns-in-Quad
returns-in-Quad c =
    around_as (both_are c.in-Some.is c.in-Quad.is) (sym (four_around _ _ _ _))
