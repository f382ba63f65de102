use native.Mathlib.Omega.{arith}
use lib.ListN.{length}
use Rattle.mesh_topology.proofs.Length.{dots_length}
use Rattle.patch_mesh.specs.Points.{points}
use Rattle.patch_mesh.proofs.Counts.{point_count_lem}
use Rattle.patch_writer.proofs.Modes.{mode_room, in_mode_lem, dots_as}
use Rattle.patch_writer.proofs.connect.write_indices.Goals as goal

pub write_dots-requires-clause-small : goal.write_dots-requires-clause-small
write_dots-requires-clause-small c = let a = c.args in
    let few = point_count_lem a.cut c.requires.valid in
    let room = mode_room a.positive a.cut c.requires.room c.if-point_mode.true in omega (arith, c.point_count-p.ensures)

pub write_dots-requires-clause-room : goal.write_dots-requires-clause-room
write_dots-requires-clause-room c = let a = c.args in
    let few = point_count_lem a.cut c.requires.valid in
    let room = mode_room a.positive a.cut c.requires.room c.if-point_mode.true in omega (arith, c.point_count-p.ensures, dots_length (length (points a.cut)))

pub returns-then-point_mode : goal.returns-then-point_mode
returns-then-point_mode c = let a = c.args in
    in_mode_lem a.positive a.cut c.if-point_mode.true
    (dots_as a.cut (point_count_lem a.cut c.requires.valid) c.point_count-p.ensures c.write_dots.ensures)
