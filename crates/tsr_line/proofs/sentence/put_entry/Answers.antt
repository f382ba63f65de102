use borrow.Author.Rules.{rules}
use native.Mathlib.Omega.{arith}
use Rattle.buffer.proofs.Laws.{wrote_then}
use Rattle.tsr_line.proofs.sentence.put_entry.Goals as goal

pub returns : goal.returns
returns c = wrote_then (omega arith) c.put_counted-a.ensures.wrote c.put_sides.ensures
