-- A quad patch by the segments of its edges. Assumes nothing.
use Rattle.std.specs.Prelude.{List, [], ◌∷◌}
use Rattle.level.specs.declared.Segments.{Segments}
use Rattle.mesh_geometry.specs.declared.Point.{Point}
use Rattle.mesh_geometry.specs.QuadPoints.{quad_patch}
use Rattle.mesh_geometry.specs.Segmented.{run}
use Rattle.quad_points.specs.declared.quad.QuadSegments.{QuadSegments}

-- the segments one after another
abbrev pub all_segments : QuadSegments → List Segments
all_segments s = s.e0 ∷ s.e1 ∷ s.e2 ∷ s.e3 ∷ s.rows ∷ s.columns ∷ []

-- the points of the patch
abbrev pub quad_patch_points : QuadSegments → List Point
quad_patch_points s = quad_patch (run s.e0) (run s.e1) (run s.e2) (run s.e3) (run s.rows) (run s.columns)
