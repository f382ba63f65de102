use Prim.Native.Nat.{◌+◌, ◌≤◌}
use lib.Seq.{slice}
use Rattle.buffer.proofs.Laws.{Left}
use Rattle.decimal_text.specs.Lines.{line}
use Rattle.mesh_lines.proofs.put_primitive.Given as goal

abbrev pub invariant-loop-j : goal.invariant-loop-j
invariant-loop-j l = (l.j ≤ l.last) × Left l.out l.w (line (slice l.j (l.k + l.width) l.indices)) l.initial.out l.at (line (slice l.k (l.k + l.width) l.indices))
