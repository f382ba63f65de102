use Rattle.vertices.specs.Rows.{last, then}
use Rattle.triangle_points.proofs.triangle.width_of.Goals as goal

pub returns : goal.returns
returns c = then c.widest-most.ensures (then c.widest-most-2.ensures (then c.widest-most-3.ensures (last c.widest.ensures)))
