use native.Mathlib.Omega.{arith}
use Rattle.decimal_text.proofs.Lines.{line_last, line_last_length}
use Rattle.decimal_text.proofs.line.put_line1.Goals as goal

pub put_ended-requires : goal.put_ended-requires
put_ended-requires c = omega (arith, line_last_length c.args.x)

pub returns : goal.returns
returns c = rw line_last c.put_ended.ensures
