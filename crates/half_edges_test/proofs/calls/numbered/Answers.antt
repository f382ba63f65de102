use borrow.Author.Tests.{leb-true}
use Rattle.check_faults.proofs.Known.{all_numbered}
use Rattle.half_edges_test.proofs.calls.numbered.Goals as goal

pub returns : goal.returns
returns c = λ h. all_numbered 8 _ (rw c.first_unknown.ensures at (leb-true _ _ h))
