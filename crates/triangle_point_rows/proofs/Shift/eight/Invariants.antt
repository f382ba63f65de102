use Rattle.buffer.proofs.Laws.{Counting}
use Rattle.triangle_point_rows.specs.Rings.{sums}
use Rattle.triangle_point_rows.proofs.Shift.eight.Given as goal

abbrev pub invariant-loop-i : goal.invariant-loop-i
invariant-loop-i l = Counting (sums l.base l.from l.self.u l.self.v l.self.w) l.i 8 l.words l.to l.initial.words 0
