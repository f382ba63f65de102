use native.Mathlib.Omega.{arith}
use mathlib.Core.List.{[], ◌∷◌}
use Rattle.buffer.proofs.Laws.{wrote_then}
use Rattle.decimal_text.proofs.Digits.{digits_short}
use Rattle.decimal_text.proofs.Lines.{none, more, line_length, line_last_length, line_more_length}
use Rattle.decimal_text.proofs.head.put_drawn.Goals as goal

pub put_line2-requires : goal.put_line2-requires
put_line2-requires c =
    let a = c.args in
    simp (line_more_length, line_last_length) (omega (arith, digits_short a.points (omega arith), digits_short a.indices (omega arith)))

pub returns : goal.returns
returns c = record {
  wrote = wrote_then (omega arith) c.put_all-w.ensures c.put_line2.ensures;
  upper_bound = omega (arith, line_length 9 (c.args.points ∷ c.args.indices ∷ []) (more (omega arith) (more (omega arith) none)));
}
