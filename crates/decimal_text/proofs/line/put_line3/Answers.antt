use native.Mathlib.Omega.{arith}
use mathlib.Core.List.{[], ◌∷◌}
use lib.ListN.{length-append}
use Rattle.decimal_text.specs.Digits.{digits}
use Rattle.decimal_text.proofs.Lines.{line_more_length, line_then}
use Rattle.decimal_text.proofs.line.put_line3.Goals as goal

pub put_ended-w-requires : goal.put_ended-w-requires
put_ended-w-requires c = omega (arith, line_more_length c.args.x c.args.y (c.args.z ∷ []))

pub put_line2-requires : goal.put_line2-requires
put_line2-requires c =
    let a = c.args in
    omega (arith, line_more_length a.x a.y (a.z ∷ []), length-append (digits a.x) (32 ∷ []))

pub returns : goal.returns
returns c = line_then c.args.x c.args.y (c.args.z ∷ []) (omega arith) c.put_ended-w.ensures c.put_line2.ensures
