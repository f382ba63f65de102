use native.Mathlib.Omega.{arith}
use mathlib.Core.Path.{refl, ap, ◌∙◌}
use Rattle.std.proofs.lemmas.Result.{err_from_is_err_and}
use Rattle.buffer.specs.Over.{over}
use Rattle.patch.specs.declared.subdivision.Subdivision.{Subdivision}
use Rattle.mesh_geometry.specs.Words.{vertex_words}
use Rattle.patch_mesh.specs.Points.{points}
use Rattle.patch_mesh.proofs.Counts.{point_count_lem}
use Rattle.measure.proofs.Cutting.{is_cut, cut_valid, cut_points}
use Rattle.tessellate.proofs.Drawing.{draw_refused, draw_short, draw_done}
use Rattle.tessellate.proofs.draw.draw_points.Goals as goal

pub returns-in_err-cut : goal.returns-in_err-cut
returns-in_err-cut c =
    let p = err_from_is_err_and c.from_residual.result c.from_residual.ensures.1 in
    rw (p.1, p.2) (draw_refused c.args.settings c.args.patch _ _ _ _ _ c.in_err-cut.ensures)

pub point_count-points-requires : goal.point_count-points-requires
point_count-points-requires c = cut_valid _ _ c.in_ok-cut.ensures

pub returns-then-vertices-points : goal.returns-then-vertices-points
returns-then-vertices-points c =
    let is = c.in_ok-cut.ensures in
    draw_short _ _ _ _ _ _ is 2 refl (omega (arith, cut_points _ _ is c.point_count-points.ensures, c.if-vertices-points.true))

pub write_points-requires : goal.write_points-requires
write_points-requires c =
    let v = cut_valid c.args.settings c.args.patch c.in_ok-cut.ensures in
    record { valid = v; room = omega (arith, c.if-vertices-points.false, c.point_count-points.ensures, point_count_lem c.in_ok-cut.cut v) }

pub returns : goal.returns
returns c =
    let a = c.args in
    let is = c.in_ok-cut.ensures in
    let many = cut_points a.settings a.patch is c.point_count-points.ensures in
    let wrote = c.write_points.ensures.is ∙ ap (λ (d : Subdivision). over a.vertices.now 0 (vertex_words (points d))) (is_cut a.settings a.patch is).cut in
    draw_done _ _ _ _ _ _ is (omega (arith, many, c.if-vertices-points.false)) many wrote
