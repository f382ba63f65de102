-- A triangle patch by the segments of its edges. Assumes nothing.
use Rattle.std.specs.Prelude.{◌≤◌, List}
use Rattle.level.specs.declared.Segments.{Segments}
use Rattle.level.specs.Segments.{Valid}
use Rattle.mesh_geometry.specs.declared.Point.{Point}
use Rattle.mesh_geometry.specs.TrianglePoints.{triangle_patch}
use Rattle.mesh_geometry.specs.Segmented.{run}

-- n and L of the outer edges are valid
abbrev pub ValidOutline : Segments → Segments → Segments → Type 0
ValidOutline e0 e1 e2 = Valid e0.count e0.scaled × Valid e1.count e1.scaled × Valid e2.count e2.scaled

-- n and L of the inner level are valid, and n is at least 2
abbrev pub ValidInner : Segments → Type 0
ValidInner inside = Valid inside.count inside.scaled × (2 ≤ inside.count)

-- the points of the patch
abbrev pub patch_points : Segments → Segments → Segments → Segments → List Point
patch_points e0 e1 e2 inside = triangle_patch (run e0) (run e1) (run e2) (run inside)
