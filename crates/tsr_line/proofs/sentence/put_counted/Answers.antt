use borrow.Author.Rules.{rules}
use native.Mathlib.Omega.{arith}
use Rattle.buffer.proofs.Laws.{wrote_then}
use Rattle.decimal_text.proofs.Digits.{digits_long}
use Rattle.tsr_line.proofs.sentence.put_counted.Goals as goal

pub put_number-b-requires : goal.put_number-b-requires
put_number-b-requires c = omega (arith, digits_long c.args.n (omega arith))

pub put_all-requires : goal.put_all-requires
put_all-requires c = omega (arith, digits_long c.args.n (omega arith))

pub returns-clause-wrote : goal.returns-clause-wrote
returns-clause-wrote c = wrote_then (omega arith) (wrote_then (omega arith) c.put_all-a.ensures c.put_number-b.ensures) c.put_all.ensures

pub returns-clause-upper_bound : goal.returns-clause-upper_bound
returns-clause-upper_bound c = omega (arith, digits_long c.args.n (omega arith))
