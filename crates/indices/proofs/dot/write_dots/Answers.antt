use native.Mathlib.Omega.{arith}
use Rattle.buffer.proofs.Laws.{counting, count_start}
use Rattle.mesh_topology.specs.Lines.{dots}
use Rattle.mesh_topology.proofs.Length.{dots_length}
use Rattle.indices.proofs.dot.write_dots.Goals as goal

pub loop-i-init : goal.loop-i-init
unfolding dots
loop-i-init c = count_start (omega (arith, dots_length c.args.p))

pub put-to-requires : goal.put-to-requires
put-to-requires c = search counting

pub loop-i-preserved : goal.loop-i-preserved
loop-i-preserved c = search counting

pub returns : goal.returns
unfolding dots
returns c = search counting
