-- What demand 3 promises for every drawn triangle or quad patch. Assumes nothing.
use Rattle.std.specs.Prelude.{ℕ, ◌<◌, ◌≡◌, false, List, [], map, length, get_or, Float}
use Rattle.std.specs.Float.{nan}
use Rattle.level.specs.declared.Spacing.{Spacing}
use Rattle.level.specs.Segments.{segments_of}
use Rattle.patch.specs.declared.kinds.Patch.{Patch}
use Rattle.patch.specs.declared.kinds.Patch.TheVariants.{Triangles, Quads, Isolines}
use Rattle.patch.specs.declared.settings.Settings.{Settings}
use Rattle.patch.specs.Turn.{turn_asked}
use Rattle.patch.specs.Subdivide.{outer_levels}
use Rattle.mesh_geometry.specs.declared.Point.{Point}
use Rattle.mesh_geometry.specs.Cover.{Cover}
use Rattle.mesh_geometry.specs.Seam.{OuterEdge, triangle_edge, quad_edge}
use Rattle.mesh_geometry.specs.Edge.{Run, ring, EdgesPlaced}
use Rattle.mesh_geometry.specs.Faces.{faces_in}
use Rattle.mesh_geometry.specs.TrianglePoints.{triangle_place, triangle_area}
use Rattle.mesh_geometry.specs.QuadPoints.{quad_place, quad_area}
use Rattle.patch_mesh.specs.Points.{run}

-- a triangle or a quad patch
abbrev pub Surface : Patch → Type 0
Surface (Triangles a b c i) = Unit {0}
Surface (Quads a b c d i j) = Unit {0}
Surface (Isolines a b) = ⊥

-- the level of outer edge k
abbrev pub outer_level : Patch → ℕ → Float
outer_level p k = get_or (outer_levels p) k nan

-- the outer edges; each depends on the spacing, its own level and the top level t alone
abbrev pub outer_runs : Spacing → ℕ → Patch → List Run
outer_runs s t p = map (λ x. run (segments_of s t x)) (outer_levels p)

-- the points of the outline in walk order
abbrev pub outline : Spacing → ℕ → Patch → List Point
outline s t (Triangles a b c i) = ring triangle_place 0 (outer_runs s t (Triangles a b c i)) 0
outline s t (Quads a b c d i j) = ring quad_place 0 (outer_runs s t (Quads a b c d i j)) 0
outline s t (Isolines a b) = []

-- the points of the outline under these settings
abbrev pub outline_of : Settings → Patch → List Point
outline_of s p = outline s.spacing s.top p

-- the outer edges of a patch: which points lie on edge k, and at which places
abbrev pub edges : Patch → ℕ → OuterEdge
edges (Triangles a b c i) = triangle_edge
edges (Quads a b c d i j) = quad_edge
edges (Isolines a b) = quad_edge

-- twice the area of the patch
abbrev pub twice_area_of : Patch → ℕ
twice_area_of (Triangles a b c i) = triangle_area
twice_area_of (Quads a b c d i j) = quad_area
twice_area_of (Isolines a b) = 0

-- demand 3 for the points ps and the index words ws that are drawn for a patch
pub record Demand (set : Settings) (p : Patch) (ps : List Point) (ws : List ℕ) : Type 0 where
  -- every index is the number of a point
  pub numbered : (k : ℕ) → k < length ws → get_or ws k 0 < length ps
  -- drawn as triangles: every field of `Cover`
  pub cover : Surface p → set.point_mode ≡ false
      → Cover (turn_asked set) (twice_area_of p) (outline set.spacing set.top p) ps (faces_in ps ws)
  -- drawn as triangles or as dots: on each outer edge the points have the places q(0) to q(n) of the spacing, that edge's level
  -- and the top level, and the places mirror. All points count, so no inner point lies on an outer edge
  pub seams : Surface p → EdgesPlaced (edges p) ps 0 (outer_runs set.spacing set.top p)
