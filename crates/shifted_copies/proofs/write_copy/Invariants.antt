use Rattle.buffer.proofs.Laws.{Counting}
use Rattle.shifted_copies.proofs.Shifts.{copied}
use Rattle.shifted_copies.proofs.write_copy.Given as goal

abbrev pub invariant-loop-i : goal.invariant-loop-i
invariant-loop-i l = Counting (copied l.by l.initial.out l.from) l.i l.n l.out l.to l.initial.out l.at
