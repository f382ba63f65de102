use Rattle.strip.proofs.Lines.{at_next}
use Rattle.strip.proofs.line.Line.next.Goals as goal

pub returns : goal.returns
returns c = let a = c.args in at_next a.self a.i a.x c.requires.inside c.requires.here
