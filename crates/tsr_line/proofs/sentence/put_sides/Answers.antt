use borrow.Author.Rules.{rules}
use native.Mathlib.Omega.{arith}
use mathlib.Core.List.{[], ◌∷◌}
use Rattle.buffer.proofs.Laws.{wrote_then}
use Rattle.decimal_text.proofs.Lines.{none, more, line_length}
use Rattle.tsr_line.proofs.sentence.put_sides.Goals as goal

pub put_line3-requires : goal.put_line3-requires
put_line3-requires c =
    let b = c.args.replayed in
    omega (arith, line_length 9 (b.answer ∷ b.points ∷ b.indices ∷ []) (more (omega arith) (more (omega arith) (more (omega arith) none))))

pub returns : goal.returns
returns c = wrote_then (omega arith) (wrote_then (omega arith) c.put_spaced-a.ensures.wrote c.put_all-b.ensures) c.put_line3.ensures
