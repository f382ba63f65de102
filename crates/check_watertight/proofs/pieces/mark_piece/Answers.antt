use native.Mathlib.Omega.{arith}
use Prim.Native.Nat.{◌<◌}
use lib.ListN.{length}
use Rattle.mesh_geometry.specs.Words.{read_points}
use Rattle.check_searches.proofs.Read.{points_count, triangles_count}
use Rattle.half_edge_chains.proofs.Numbers.{start_word, end_known}
use Rattle.check_faults.specs.Judged.{judged_by}
use Rattle.check_watertight.proofs.Joins.{piece_met, piece_closes, marked_more}
use Rattle.check_watertight.proofs.pieces.mark_piece.Goals as goal

pub point_at-p-requires : goal.point_at-p-requires
point_at-p-requires c =
    let s = c in
    omega (arith, s.args.mesh.numbered.at s.args.m (omega arith), points_count s.args.mesh.points.now)

pub point_at-q-requires : goal.point_at-q-requires
point_at-q-requires c =
    let s = c in
    let a = s.args in
    omega (arith, c.end_at.ensures, end_known _ a.mesh.indices.now a.m s.args.mesh.numbered s.requires.within, points_count a.mesh.points.now)

pub returns-then-k-mesh-clause-closed : goal.returns-then-k-mesh-clause-closed
returns-then-k-mesh-clause-closed c =
    let s = c in
    let a = s.args in
    let o = read_points a.mesh.outline.now in
    let mesh = judged_by a.mesh in
    let l : c.find_piece-k.result < length o = omega (arith, c.if-k-mesh.true, points_count a.mesh.outline.now) in
    let p = piece_met mesh a.m (start_word a.mesh.indices.now a.m s.requires.within) c.end_at.ensures
    c.point_at-p.ensures c.point_at-q.ensures l (c.find_piece-k.ensures l) in
    λ h. piece_closes mesh a.m _ p

pub returns-then-k-mesh-clause-marked : goal.returns-then-k-mesh-clause-marked
returns-then-k-mesh-clause-marked c =
    let s = c in
    let a = s.args in
    let o = read_points a.mesh.outline.now in
    let mesh = judged_by a.mesh in
    let l : c.find_piece-k.result < length o = omega (arith, c.if-k-mesh.true, points_count a.mesh.outline.now) in
    let p = piece_met mesh a.m (start_word a.mesh.indices.now a.m s.requires.within) c.end_at.ensures
    c.point_at-p.ensures c.point_at-q.ensures l (c.find_piece-k.ensures l) in
    rw c.set_mark.ensures
    (marked_more mesh a.m _ _ (omega (arith, s.requires.within, triangles_count a.mesh.indices.now)) p s.requires.drawn)

pub returns-else-k-mesh-clause-closed : goal.returns-else-k-mesh-clause-closed
returns-else-k-mesh-clause-closed c = λ h. absurd (omega (arith, h, c.if-k-mesh.false, points_count c.args.mesh.outline.now))
