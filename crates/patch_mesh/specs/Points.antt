-- The points of every patch, in drawing order. Assumes nothing.
use Rattle.std.specs.Prelude.{List, []}
use Rattle.patch.specs.declared.subdivision.Subdivision.{Subdivision}
use Rattle.patch.specs.declared.subdivision.Subdivision.TheVariants.{Discarded, PlainTriangle, Triangle, PlainQuad, Quad, Lines}
use Rattle.mesh_geometry.specs.declared.Point.{Point}
pub use Rattle.mesh_geometry.specs.Segmented.{run, isoline_points}
use Rattle.mesh_geometry.specs.TrianglePoints.{triangle_patch, triangle_corners}
use Rattle.mesh_geometry.specs.QuadPoints.{quad_patch, quad_corners}

-- the points of a patch
unfoldable pub points : Subdivision → List Point
points Discarded = []
points PlainTriangle = triangle_corners
points (Triangle a b c i) = triangle_patch (run a) (run b) (run c) (run i)
points PlainQuad = quad_corners
points (Quad a b c d m n) = quad_patch (run a) (run b) (run c) (run d) (run m) (run n)
points (Lines m n) = isoline_points (run m) (run n)
