use Rattle.vertices.proofs.Loops.{points}
use Rattle.quad_point_rows.proofs.write_edge.Goals as goal

pub loop-x-init : goal.loop-x-init
loop-x-init c = search points

pub put3-to-requires : goal.put3-to-requires
put3-to-requires c = search points

pub loop-x-preserved : goal.loop-x-preserved
loop-x-preserved c = search points

pub returns : goal.returns
returns c = search points
