use Rattle.std.proofs.lemmas.Result.{err_from_is_err_and}
use Rattle.measure.specs.Sizes.{measure_verdict}
use Rattle.measure.proofs.Cutting.{measured_refused, is_cut, cut_top, cut_valid, cut_points, cut_indices}
use Rattle.measure.proofs.measure.Goals as goal

pub returns-in_err-cut : goal.returns-in_err-cut
returns-in_err-cut c =
    let p = err_from_is_err_and c.from_residual.result c.from_residual.ensures.1 in
    rw (p.1, p.2) (measured_refused c.args.settings c.args.patch _ c.in_err-cut.ensures)

pub point_count-points-requires : goal.point_count-points-requires
point_count-points-requires c = cut_valid c.args.settings c.args.patch c.in_ok-cut.ensures

pub index_count-indices-requires : goal.index_count-indices-requires
index_count-indices-requires c = cut_valid c.args.settings c.args.patch c.in_ok-cut.ensures

pub clamps_of-clamps-requires : goal.clamps_of-clamps-requires
clamps_of-clamps-requires c = cut_top c.args.settings c.args.patch c.in_ok-cut.ensures

pub returns : goal.returns
unfolding measure_verdict
returns c =
    let a = c.args in
    let e = c.in_ok-cut.ensures in
    let i = is_cut a.settings a.patch e in
    rw (
      i.top,
      i.drawn,
      ← cut_points a.settings a.patch e c.point_count-points.ensures,
      ← cut_indices a.settings a.patch e c.index_count-indices.ensures,
      c.clamps_of-clamps.ensures,
    )
