use native.Mathlib.Omega.{arith}
use mathlib.Core.List.{[], ◌∷◌}
use Rattle.buffer.proofs.Laws.{wrote_then}
use Rattle.decimal_text.proofs.Lines.{none, more, line_length}
use Rattle.decimal_text.proofs.head.put_worded.Goals as goal

pub put_line1-requires : goal.put_line1-requires
put_line1-requires c = omega (arith, line_length 9 (c.args.n ∷ []) (more (omega arith) none))

pub returns : goal.returns
returns c = record {
  wrote = wrote_then (omega arith) c.put_all-w.ensures c.put_line1.ensures;
  upper_bound = omega (arith, line_length 9 (c.args.n ∷ []) (more (omega arith) none));
}
