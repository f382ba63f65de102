use native.Mathlib.Omega.{arith}
use Rattle.mesh_geometry.specs.Words.{read_triangles}
use Rattle.check_searches.proofs.Read.{points_count, triangles_count}
use Rattle.check_verdict.specs.declared.fault.Fault.TheVariants.{Turned}
use Rattle.check_verdict.specs.Faults.{side_twice, side_fault}
use Rattle.check_verdict.proofs.Chain.{found, next}
use Rattle.check_verdict.proofs.fault.side_fault.Goals as goal

pub returns-then-triangle-count : goal.returns-then-triangle-count
unfolding side_fault
returns-then-triangle-count c =
    let n = triangles_count c.args.mesh.indices.now in
    found Turned _ c.first_turned-triangle.ensures n c.if-triangle-count.true

pub first_reused-reused-requires-clause-within : goal.first_reused-reused-requires-clause-within
first_reused-reused-requires-clause-within c = omega (arith, c.reach-known.ensures.once_most, triangles_count c.args.mesh.indices.now)

pub returns-then-reused-count : goal.returns-then-reused-count
unfolding side_fault
returns-then-reused-count c =
    let ws = c.args.mesh.indices.now in
    let n = triangles_count ws in
    next _ c.first_turned-triangle.ensures n c.if-triangle-count.false
    (rw (c.first_sharing.ensures, c.triangle_at-t.ensures) (found (side_twice (read_triangles ws)) _ c.first_reused-reused.ensures n c.if-reused-count.true))

pub outline_fault-requires-clause-joined_within : goal.outline_fault-requires-clause-joined_within
outline_fault-requires-clause-joined_within c = omega (arith, c.reach-known.ensures.joined_most, triangles_count c.args.mesh.indices.now)

pub outline_fault-requires-clause-drawn_within : goal.outline_fault-requires-clause-drawn_within
outline_fault-requires-clause-drawn_within c = omega (arith, c.reach-known.ensures.drawn_most, points_count c.args.mesh.outline.now)

pub returns : goal.returns
unfolding side_fault
returns c =
    let n = triangles_count c.args.mesh.indices.now in
    next _ c.first_turned-triangle.ensures n c.if-triangle-count.false
    (next _ c.first_reused-reused.ensures n c.if-reused-count.false c.outline_fault.ensures)
