use native.Mathlib.Omega.{arith}
use Rattle.mesh_lines.proofs.Listed.{listed_start, listing}
use Rattle.mesh_lines.proofs.put_points.Goals as goal

pub loop-i-init : goal.loop-i-init
loop-i-init c =
    let a = c.args in
    listed_start 9 33 3 a.vertices.now a.from a.count (λ i. omega (arith, c.type_inv.vertices i)) (omega arith) (omega arith)

pub put_point-w-requires-clause-room : goal.put_point-w-requires-clause-room
put_point-w-requires-clause-room c = search listing

pub loop-i-preserved : goal.loop-i-preserved
loop-i-preserved c = search listing

pub returns-clause-wrote : goal.returns-clause-wrote
returns-clause-wrote c = search listing

pub returns-clause-upper_bound : goal.returns-clause-upper_bound
returns-clause-upper_bound c = search listing
