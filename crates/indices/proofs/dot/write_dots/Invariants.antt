use mathlib.Core.List.{[], ◌∷◌}
use Rattle.buffer.proofs.Laws.{Counting}
use Rattle.indices.proofs.dot.write_dots.Given as goal

abbrev pub invariant-loop-i : goal.invariant-loop-i
invariant-loop-i l = Counting (λ k. k ∷ []) l.i l.p l.out l.to l.initial.out l.at
