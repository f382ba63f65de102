use Prim.Native.Nat.{◌≤◌}
use mathlib.Core.Path.{◌≡◌}
use lib.ListN.{length}
use Rattle.check_watertight.specs.Closing.{OpensClosed, MarksDrawn}
use Rattle.check_faults.specs.Judged.{judged_by}
use Rattle.check_watertight.proofs.pieces.all_pieces.Given as goal

abbrev pub invariant-loop-k : goal.invariant-loop-k
invariant-loop-k l = (l.k ≤ l.count) × OpensClosed (judged_by l.mesh) l.opens l.k × MarksDrawn (judged_by l.mesh) l.marks × (length l.marks ≡ length l.initial.marks)
