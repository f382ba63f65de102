use Prim.Native.Nat.{ℕ, ◌≤◌}
use lib.IntN.{pos}
use lib.Dec.{T, le→leb}
use lib.Ieee.{binary32, in_float}
use borrow.Author.Rules.{rules}
use Rattle.coordinate.specs.Coordinate.{coordinate}
use Rattle.coordinate.proofs.coordinate_of.Goals as goal

held : (n : ℕ) → n ≤ 16777216 → T (in_float binary32 (pos n))
unfolding in_float
held n h = le→leb n 16777216 h

pub returns : goal.returns
unfolding coordinate
returns c = search rules
