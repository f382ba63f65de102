use Rattle.coordinate.specs.Coordinate.{coordinate}
use Rattle.coordinate.proofs.Fill.{Filled}
use Rattle.coordinate.proofs.write_coordinates.Given as goal

abbrev pub invariant-loop-i : goal.invariant-loop-i
invariant-loop-i l = Filled (coordinate l.one) l.words l.count l.i l.initial.out l.out
