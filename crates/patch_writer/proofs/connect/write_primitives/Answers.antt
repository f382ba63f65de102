use native.Mathlib.Omega.{arith}
use lib.ListN.{length}
use Rattle.buffer.proofs.Laws.{wrote_none}
use Rattle.patch.specs.declared.subdivision.Subdivision.TheVariants.{PlainTriangle, PlainQuad}
use Rattle.patch_mesh.specs.Primitives.{triangles, primitives}
use Rattle.patch_mesh.specs.Counts.{primitive_count}
use Rattle.patch_writer.proofs.Cuts.{valid_as, room_as, count_fits, as_cut, nest_room, quad_room, lines_room}
use Rattle.patch_writer.proofs.connect.write_primitives.Goals as goal

pub write_plain_triangle-requires : goal.write_plain_triangle-requires
unfolding primitive_count
write_plain_triangle-requires c = omega (arith, count_fits c.args.positive PlainTriangle c.requires.room c.in-PlainTriangle.is tt)

pub write_nest-requires-clause-room : goal.write_nest-requires-clause-room
write_nest-requires-clause-room c =
    let is = c.in-Triangle in
    let v = valid_as c.requires.valid is.is in
    let room = room_as (λ d. length (primitives c.args.positive d)) c.requires.room is.is in
    omega (arith, nest_room c.args.positive is.edge0 is.edge1 is.edge2 is.inside)

pub write_plain_quad-requires : goal.write_plain_quad-requires
unfolding primitive_count
write_plain_quad-requires c = omega (arith, count_fits c.args.positive PlainQuad c.requires.room c.in-PlainQuad.is tt)

pub write_quad-requires-clause-room : goal.write_quad-requires-clause-room
write_quad-requires-clause-room c =
    let is = c.in-Quad in
    let v = valid_as c.requires.valid is.is in
    let room = room_as (λ d. length (primitives c.args.positive d)) c.requires.room is.is in
    omega (arith, quad_room c.args.positive is.edge0 is.edge1 is.edge2 is.edge3 is.rows is.columns)

pub write_isolines-requires-clause-room : goal.write_isolines-requires-clause-room
write_isolines-requires-clause-room c =
    let is = c.in-Lines in
    let v = valid_as c.requires.valid is.is in
    let room = room_as (λ d. length (primitives c.args.positive d)) c.requires.room is.is in
    omega (arith, lines_room c.args.positive is.lines is.along v)

pub returns-in-Discarded : goal.returns-in-Discarded
returns-in-Discarded c = as_cut (primitives c.args.positive) c.in-Discarded.is (wrote_none c.args.out.now 0)

pub returns-in-Triangle : goal.returns-in-Triangle
unfolding triangles
returns-in-Triangle c = as_cut (primitives c.args.positive) c.in-Triangle.is c.write_nest.ensures

pub returns-in-Quad : goal.returns-in-Quad
unfolding triangles
returns-in-Quad c = as_cut (primitives c.args.positive) c.in-Quad.is c.write_quad.ensures
