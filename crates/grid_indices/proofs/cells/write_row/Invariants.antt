use Prim.Native.Nat.{◌+◌}
use Rattle.buffer.proofs.Laws.{Counting}
use Rattle.grid_indices.specs.Grids.{cell_words}
use Rattle.grid_indices.proofs.cells.write_row.Given as goal

abbrev pub invariant-loop-c : goal.invariant-loop-c
invariant-loop-c l = Counting (λ k. cell_words l.positive (l.first + k) (l.first + k + l.width)) l.c l.b l.out l.to l.initial.out l.at
