use Rattle.compare_differences.proofs.Lacks.{point_told}
use Rattle.compare_differences.proofs.side.lacks_point.Goals as goal

pub returns : goal.returns
returns c = point_told _ _ _ _ _ _ c.point_at.ensures c.requires.distinct c.requires.in_range
    c.find_point.ensures.found c.find_point.ensures.inside c.is_none.ensures
