use native.Mathlib.Omega.{arith}
use mathlib.Core.List.{[], ◌∷◌}
use Rattle.decimal_text.proofs.Lines.{none, more, line_length}
use Rattle.decimal_text_test.proofs.put_one.Goals as goal

pub put_line1-requires : goal.put_line1-requires
put_line1-requires c = omega (arith, line_length 9 (c.args.x ∷ []) (more (omega arith) none))

pub returns : goal.returns
returns c = omega (arith, line_length 9 (c.args.x ∷ []) (more (omega arith) none))
