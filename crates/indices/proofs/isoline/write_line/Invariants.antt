use Prim.Native.Nat.{◌+◌}
use mathlib.Core.List.{[], ◌∷◌}
use Rattle.buffer.proofs.Laws.{Counting}
use Rattle.indices.proofs.isoline.write_line.Given as goal

abbrev pub invariant-loop-c : goal.invariant-loop-c
invariant-loop-c l = Counting (λ k. (l.first + k) ∷ (l.first + k + 1) ∷ []) l.c l.n l.out l.to l.initial.out l.at
