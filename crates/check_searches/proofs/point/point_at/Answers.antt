use borrow.Author.Rules.{rules}
use Rattle.check_searches.proofs.Read.{point_read}
use Rattle.check_searches.proofs.point.point_at.Goals as goal

pub returns : goal.returns
returns c = search (point_read, rules)
