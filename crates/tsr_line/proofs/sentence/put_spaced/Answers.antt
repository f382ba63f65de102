use borrow.Author.Rules.{rules}
use Prim.Native.Nat.{◌≤◌}
use mathlib.Core.List.{[], ◌∷◌}
use native.Mathlib.Omega.{arith}
use lib.ListN.{length, length-append}
use Rattle.buffer.proofs.Laws.{wrote_then}
use Rattle.decimal_text.specs.Digits.{digits}
use Rattle.decimal_text.proofs.Digits.{digits_short}
use Rattle.tsr_line.proofs.Spaces.{spaced_three}
use Rattle.tsr_line.proofs.sentence.put_spaced.Goals as goal

pub put_ended-a-requires : goal.put_ended-a-requires
put_ended-a-requires c = omega (arith, digits_short c.args.side.answer (omega arith))

pub put_ended-b-requires : goal.put_ended-b-requires
put_ended-b-requires c = omega (
  arith,
  digits_short c.args.side.answer (omega arith),
  length-append
      (digits c.args.side.answer) (32 ∷ []),
  digits_short
      c.args.side.points (omega arith),
  length-append
      (digits c.args.side.points) (32 ∷ []),
)

pub put_ended-requires : goal.put_ended-requires
put_ended-requires c = omega (
  arith,
  digits_short c.args.side.answer
      (omega arith),
  length-append (digits c.args.side.answer) (32 ∷ []),
  digits_short c.args.side.points (omega arith),
  length-append
      (digits c.args.side.points) (32 ∷ []),
  digits_short
      c.args.side.indices (omega arith),
  length-append
      (digits c.args.side.indices) (32 ∷ []),
)

pub returns-clause-wrote : goal.returns-clause-wrote
returns-clause-wrote c =
    rw spaced_three (wrote_then (omega arith) (wrote_then (omega arith) c.put_ended-a.ensures c.put_ended-b.ensures) c.put_ended.ensures)

pub returns-clause-upper_bound : goal.returns-clause-upper_bound
returns-clause-upper_bound c =
    let side = c.args.side in
    omega (
      arith,
      digits_short side.answer (omega arith),
      digits_short side.points (omega arith),
      digits_short side.indices (omega arith),
      length-append (digits side.answer) (32 ∷ []),
      length-append (digits side.points) (32 ∷ []),
      length-append (digits side.indices) (32 ∷ []),
    )
