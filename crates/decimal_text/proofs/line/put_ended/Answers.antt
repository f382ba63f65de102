use native.Mathlib.Omega.{arith}
use Rattle.buffer.proofs.Laws.{wrote_then}
use Rattle.decimal_text.proofs.line.put_ended.Goals as goal

pub returns : goal.returns
returns c = wrote_then (omega arith) c.put_number-w.ensures c.put.ensures
