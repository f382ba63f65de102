use Rattle.strip.proofs.Lines.{at_last, at_more}
use Rattle.strip.proofs.line.Line.vertex_at.Goals as goal

pub returns-then-i-count : goal.returns-then-i-count
returns-then-i-count c = let a = c.args in at_last a.self a.i c.if-i-count.true

pub returns : goal.returns
returns c = let a = c.args in at_more a.self a.i c.if-i-count.false
