use borrow.Author.Rules.{rules}
use Rattle.check_side_searches.specs.Same.{same_triangle}
use Rattle.check_side_searches.proofs.same.same_triangle.Goals as goal

pub returns : goal.returns
unfolding same_triangle
returns c = search rules
