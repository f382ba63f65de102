use Rattle.std.proofs.lemmas.Result.{err_from_is_err_and}
use Rattle.draw_floats.proofs.Verdicts.{drawn_fits}
use Rattle.draw_floats.proofs.Lists.{points_over, loop_asks}
use Rattle.draw_floats.proofs.Draws.{untouched, all_written}
use Rattle.draw_floats.proofs.draw.draw_with_floats.Goals as goal

pub returns-in_err-counts : goal.returns-in_err-counts
returns-in_err-counts c =
    let p = err_from_is_err_and c.from_residual.result c.from_residual.ensures.1 in
    rw (p.1, p.2) (untouched c.args.settings c.args.patch _ c.in_err-counts.ensures)

pub write_coordinates-requires-clause-room : goal.write_coordinates-requires-clause-room
write_coordinates-requires-clause-room c =
    let a = c.args in
    let drawn = c.draw_points-points in
    let fits = drawn_fits a.settings a.patch a.vertices.now a.indices.now a.floats.now _ _ c.in_ok-counts.ensures in
    (loop_asks a.settings a.patch fits (points_over a.settings a.patch fits drawn.result drawn.ensures) c.one_of.ensures).0

pub write_coordinates-requires-clause-castable : goal.write_coordinates-requires-clause-castable
write_coordinates-requires-clause-castable c =
    let a = c.args in
    let drawn = c.draw_points-points in
    let fits = drawn_fits a.settings a.patch a.vertices.now a.indices.now a.floats.now _ _ c.in_ok-counts.ensures in
    (loop_asks a.settings a.patch fits (points_over a.settings a.patch fits drawn.result drawn.ensures) c.one_of.ensures).1

pub returns : goal.returns
returns c =
    let drawn = c.draw_points-points in
    let connected = c.draw_indices-indices in
    all_written c.args.settings c.args.patch c.in_ok-counts.counts drawn.result connected.result
    c.in_ok-counts.ensures drawn.ensures connected.ensures c.one_of.ensures c.write_coordinates.ensures
