use mathlib.Core.Path.{refl}
use Rattle.patch_mesh.specs.Counts.{point_count, primitive_count}
use Rattle.patch_writer.proofs.Cuts.{counted_as}
use Rattle.patch_writer.proofs.count.counts_of.Goals as goal

pub returns-in-Discarded : goal.returns-in-Discarded
unfolding point_count primitive_count
returns-in-Discarded c = counted_as c.in-Discarded.is (refl, refl)

pub returns-in-PlainTriangle : goal.returns-in-PlainTriangle
unfolding point_count primitive_count
returns-in-PlainTriangle c = counted_as c.in-PlainTriangle.is (refl, refl)

pub returns-in-Triangle : goal.returns-in-Triangle
unfolding point_count primitive_count
returns-in-Triangle c = counted_as c.in-Triangle.is c.triangle_counts.ensures

pub returns-in-PlainQuad : goal.returns-in-PlainQuad
unfolding point_count primitive_count
returns-in-PlainQuad c = counted_as c.in-PlainQuad.is (refl, refl)

pub returns-in-Quad : goal.returns-in-Quad
unfolding point_count primitive_count
returns-in-Quad c = counted_as c.in-Quad.is c.quad_counts.ensures

pub returns-in-Lines : goal.returns-in-Lines
unfolding point_count primitive_count
returns-in-Lines c = counted_as c.in-Lines.is c.line_counts.ensures
