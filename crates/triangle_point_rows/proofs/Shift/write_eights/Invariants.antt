use Prim.Native.Nat.{◌+◌, ◌*◌}
use Rattle.buffer.specs.Over.{flat}
use Rattle.buffer.proofs.Laws.{Counting}
use Rattle.triangle_point_rows.specs.Rings.{sums}
use Rattle.triangle_point_rows.proofs.Shift.write_eights.Given as goal

abbrev pub invariant-loop-i : goal.invariant-loop-i
invariant-loop-i l = Counting (λ j. flat (sums l.base (l.from + 24 * j) l.self.u l.self.v l.self.w) 0 8) l.i l.k l.out l.to l.initial.out l.at
