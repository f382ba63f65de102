use native.Mathlib.Omega.{arith}
use mathlib.Core.List.{[], ◌∷◌}
use lib.ListN.{length-append}
use Rattle.decimal_text.specs.Digits.{digits}
use Rattle.decimal_text.proofs.Lines.{line_more_length, line_then}
use Rattle.decimal_text.proofs.line.put_line2.Goals as goal

pub put_ended-w-requires : goal.put_ended-w-requires
put_ended-w-requires c = omega (arith, line_more_length c.args.x c.args.y [])

pub put_line1-requires : goal.put_line1-requires
put_line1-requires c =
    let a = c.args in
    omega (arith, line_more_length a.x a.y [], length-append (digits a.x) (32 ∷ []))

pub returns : goal.returns
returns c = line_then c.args.x c.args.y [] (omega arith) c.put_ended-w.ensures c.put_line1.ensures
