use Rattle.check_searches.specs.Triangles.{share_side}
use Rattle.check_searches.proofs.triangle.share_side.Goals as goal

pub returns : goal.returns
unfolding share_side
returns c = rw (c.has_side.ensures, c.has_side-2.ensures, c.has_side-3.ensures)
