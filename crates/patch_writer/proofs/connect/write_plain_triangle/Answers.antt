use Rattle.strip.specs.Triangles.{indices}
use Rattle.patch_mesh.specs.Primitives.{triangles}
use Rattle.patch_writer.proofs.connect.write_plain_triangle.Goals as goal

pub returns : goal.returns
unfolding triangles indices
returns c = c.put_triangle.ensures
