use lib.Dec.{leb}
use lib.ListN.{length, get_or}
use Rattle.check_searches.proofs.First.{Passed}
use Rattle.check_searches.proofs.index.first_unknown.Given as goal

abbrev pub invariant-loop-k : goal.invariant-loop-k
invariant-loop-k l = Passed (λ i. leb l.count (get_or l.indices i 0)) (length l.indices) l.k
