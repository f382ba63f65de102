use native.Mathlib.Omega.{arith}
use Prim.Native.Nat.{suc}
use Rattle.strip.proofs.Lines.{at_last}
use Rattle.strip.proofs.line.Line.after.Goals as goal

pub returns-then-i-count : goal.returns-then-i-count
returns-then-i-count c = let a = c.args in at_last a.self (suc a.i) (omega arith)
