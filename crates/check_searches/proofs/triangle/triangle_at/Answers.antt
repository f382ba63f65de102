use borrow.Author.Rules.{rules}
use Rattle.check_searches.proofs.Read.{triangle_read}
use Rattle.check_searches.proofs.triangle.triangle_at.Goals as goal

pub returns : goal.returns
returns c = search (triangle_read, rules)
