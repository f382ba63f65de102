use native.Mathlib.Omega.{arith}
use Rattle.mesh_geometry.specs.Words.{read_points}
use Rattle.check_searches.proofs.Read.{points_count}
use Rattle.check_verdict.specs.declared.fault.Fault.TheVariants.{Outside}
use Rattle.check_verdict.specs.Faults.{equal_points, point_fault}
use Rattle.check_verdict.proofs.Chain.{found, next}
use Rattle.check_faults.proofs.Known.{all_small}
use Rattle.check_verdict.proofs.fault.point_fault.Goals as goal

pub returns-then-point-count : goal.returns-then-point-count
unfolding point_fault
returns-then-point-count c =
    let n = points_count c.args.mesh.points.now in
    found Outside _ c.first_outside-point.ensures n c.if-point-count.true

pub returns-then-repeated-count : goal.returns-then-repeated-count
unfolding point_fault
returns-then-repeated-count c =
    let ws = c.args.mesh.points.now in
    let n = points_count ws in
    next _ c.first_outside-point.ensures n c.if-point-count.false
    (rw (c.first_equal.ensures, c.point_at-q.ensures) (found (equal_points (read_points ws)) _ c.first_repeated-repeated.ensures n c.if-repeated-count.true))

pub side_fault-requires : goal.side_fault-requires
side_fault-requires c =
    let ws = c.args.mesh.points.now in
    all_small c.args.triangles (read_points ws) (omega (arith, points_count ws, c.first_outside-point.ensures, c.if-point-count.false))

pub returns : goal.returns
unfolding point_fault
returns c =
    let n = points_count c.args.mesh.points.now in
    next _ c.first_outside-point.ensures n c.if-point-count.false
    (next _ c.first_repeated-repeated.ensures n c.if-repeated-count.false c.side_fault.ensures)
