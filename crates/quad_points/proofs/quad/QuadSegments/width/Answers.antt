use Rattle.vertices.specs.Rows.{last, then}
use Rattle.quad_points.proofs.quad.QuadSegments.width.Goals as goal

pub returns : goal.returns
returns c = then c.widest-most.ensures (then c.widest-most-2.ensures
    (then c.widest-most-3.ensures (then c.widest-most-4.ensures
    (then c.widest-most-5.ensures (last c.widest.ensures)))))
