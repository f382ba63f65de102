use native.Mathlib.Omega.{arith}
use Prim.Native.Nat.{◌*◌}
use lib.ListN.{length}
use Rattle.buffer.proofs.Laws.{wrote_none}
use Rattle.patch.specs.declared.subdivision.Subdivision.TheVariants.{PlainTriangle, PlainQuad}
use Rattle.mesh_geometry.specs.Words.{vertex_words}
use Rattle.patch_mesh.specs.Points.{points}
use Rattle.patch_writer.proofs.Cuts.{valid_as, room_as, as_cut}
use Rattle.patch_writer.proofs.place.write_points.Goals as goal

pub write_plain_triangle-requires : goal.write_plain_triangle-requires
unfolding points
write_plain_triangle-requires c = omega (arith, room_as (λ d. 3 * length (points d)) {d = PlainTriangle} c.requires.room c.in-PlainTriangle.is)

pub write_drawn_triangle-requires-clause-fact_3 : goal.write_drawn_triangle-requires-clause-fact_3
unfolding points
write_drawn_triangle-requires-clause-fact_3 c = let e = c.in-Triangle.is in
    let v = valid_as c.requires.valid e in
    let room = room_as (λ d. 3 * length (points d)) c.requires.room e in omega arith

pub write_plain_quad-requires : goal.write_plain_quad-requires
unfolding points
write_plain_quad-requires c = omega (arith, room_as (λ d. 3 * length (points d)) {d = PlainQuad} c.requires.room c.in-PlainQuad.is)

pub write_quad_patch-requires-clause-room : goal.write_quad_patch-requires-clause-room
unfolding points
write_quad_patch-requires-clause-room c = let e = c.in-Quad.is in
    let v = valid_as c.requires.valid e in
    let room = room_as (λ d. 3 * length (points d)) c.requires.room e in omega arith

pub write_isolines-requires-clause-fact_2 : goal.write_isolines-requires-clause-fact_2
unfolding points
write_isolines-requires-clause-fact_2 c = let e = c.in-Lines.is in
    let v = valid_as c.requires.valid e in
    let room = room_as (λ d. 3 * length (points d)) c.requires.room e in omega arith

pub returns-in-Discarded : goal.returns-in-Discarded
unfolding points vertex_words
returns-in-Discarded c = as_cut (λ d. vertex_words (points d)) c.in-Discarded.is (wrote_none c.args.out.now 0)

pub returns-in-PlainTriangle : goal.returns-in-PlainTriangle
unfolding points
returns-in-PlainTriangle c = as_cut (λ d. vertex_words (points d)) c.in-PlainTriangle.is c.write_plain_triangle.ensures

pub returns-in-Triangle : goal.returns-in-Triangle
unfolding points
returns-in-Triangle c = as_cut (λ d. vertex_words (points d)) c.in-Triangle.is c.write_drawn_triangle.ensures

pub returns-in-PlainQuad : goal.returns-in-PlainQuad
unfolding points
returns-in-PlainQuad c = as_cut (λ d. vertex_words (points d)) c.in-PlainQuad.is c.write_plain_quad.ensures

pub returns-in-Quad : goal.returns-in-Quad
unfolding points
returns-in-Quad c = as_cut (λ d. vertex_words (points d)) c.in-Quad.is c.write_quad_patch.ensures

pub returns-in-Lines : goal.returns-in-Lines
unfolding points
returns-in-Lines c = as_cut (λ d. vertex_words (points d)) c.in-Lines.is c.write_isolines.ensures
