-- What the chapter requires of one drawn patch, with the vertices ps and the index words ws.
-- Assumes nothing.
use Rattle.std.specs.Prelude.{ℕ, ◌<◌, ◌≡◌, true, false, List, [], map, length, get_or, Float}
use Rattle.level.specs.declared.Spacing.TheVariants.{Equal}
use Rattle.patch.specs.declared.kinds.Patch.{Patch}
use Rattle.patch.specs.declared.kinds.Patch.TheVariants.{Triangles, Quads, Isolines}
use Rattle.patch.specs.declared.settings.Settings.{Settings}
use Rattle.patch.specs.Subdivide.{outer_levels}
use Rattle.patch.specs.Turn.{turn_asked}
use Rattle.mesh_geometry.specs.declared.Point.{Point}
use Rattle.mesh_geometry.specs.Cover.{Face, Cover}
use Rattle.mesh_geometry.specs.Seam.{places}
use Rattle.mesh_geometry.specs.Edge.{Run, ring, along}
use Rattle.mesh_geometry.specs.TrianglePoints.{triangle_place}
use Rattle.mesh_geometry.specs.QuadPoints.{quad_place}
use Rattle.mesh_geometry.specs.Words.{read_triangles}
use Rattle.patch_mesh.specs.Demand.{Surface, outer_level, edges, twice_area_of}
use Rattle.mesh_geometry.specs.Faces.{faces_in}
use Rattle.patch_mesh.specs.Inside.{SpotsOnce}
use Rattle.patch_mesh.specs.InPatch.{InPatch, domain_of}
use Rattle.vulkan_chapter.specs.Members.{Member}
use Rattle.vulkan_chapter.specs.Discard.{PatchDiscarded}
use Rattle.vulkan_chapter.specs.Spacing.{EdgeRule, Subdivides}
use Rattle.vulkan_chapter.specs.Winding.{winding_area, Ordered}
use Rattle.vulkan_chapter.specs.Between.{NumberedLine}
use Rattle.vulkan_chapter.specs.Triangles.{TriangleVertices, TriangleFaces}
use Rattle.vulkan_chapter.specs.Quads.{QuadVertices, QuadFaces}
use Rattle.vulkan_chapter.specs.Isolines.{LineVertices, LineSegments, EachOnce}

-- how the vertices are numbered. The chapter leaves it open; the fields below fix where each numbered vertex lies
pub record Numbering : Type 0 where
  pub ring : ℕ → ℕ → NumberedLine
  pub side : ℕ → NumberedLine
  pub grid : ℕ → ℕ → ℕ
  pub line : ℕ → NumberedLine

module _ (rule : EdgeRule) (set : Settings) where
  -- the edges that an outer and an inner level give
  abbrev pub outer_edge : Float → Run
  outer_edge x = rule.edge set.spacing set.top x

  abbrev pub inner_edge : Float → Run
  inner_edge x = rule.inner set.spacing set.top x

  -- the number of isolines has equal spacing, whatever spacing is asked for
  abbrev pub line_edge : Float → Run
  line_edge x = rule.edge Equal set.top x

  -- outer edge k, divided by its own level
  abbrev pub edge_number : Patch → ℕ → Run
  edge_number p k = outer_edge (outer_level p k)

  -- the outline's vertices in walk order
  abbrev pub outline_by : Patch → List Point
  outline_by (Triangles a b c i) = ring triangle_place 0 (map outer_edge (outer_levels (Triangles a b c i))) 0
  outline_by (Quads a b c d i j) = ring quad_place 0 (map outer_edge (outer_levels (Quads a b c d i j))) 0
  outline_by (Isolines a b) = []

  -- where the vertices lie, by kind of patch
  abbrev pub VerticesOf : Numbering → Patch → List Point → Type 0
  VerticesOf n (Triangles a b c i) ps = TriangleVertices n.ring (edge_number (Triangles a b c i)) (outer_edge i) (inner_edge i) ps
  VerticesOf n (Quads a b c d i j) ps =
      QuadVertices n.side n.grid (edge_number (Quads a b c d i j)) (outer_edge i) (outer_edge j) (inner_edge i) (inner_edge j) ps
  VerticesOf n (Isolines a b) ps = LineVertices n.line (line_edge a) (outer_edge b) ps

  -- the triangles or lines, by kind of patch
  abbrev pub PrimitivesOf : Numbering → Patch → List ℕ → Type 0
  PrimitivesOf n (Triangles a b c i) ws = TriangleFaces n.ring (edge_number (Triangles a b c i)) (outer_edge i) (inner_edge i) (read_triangles ws)
  PrimitivesOf n (Quads a b c d i j) ws =
      QuadFaces n.side n.grid (edge_number (Quads a b c d i j)) (outer_edge i) (outer_edge j) (inner_edge i) (inner_edge j) (read_triangles ws)
  PrimitivesOf n (Isolines a b) ws = LineSegments n.line (line_edge a).c (outer_edge b).c ws

-- what the chapter requires, where `rule` is how this tessellator subdivides edges
pub record Chapter (rule : EdgeRule) (set : Settings) (p : Patch) (ps : List Point) (ws : List ℕ) : Type 0 where
  -- 23.1: coordinates lie from 0 to 1, and u + v + w is 1 on triangles; every index is the number of a vertex
  pub domain : (v : Point) → Member v ps → InPatch (domain_of p) v
  pub numbered : (k : ℕ) → k < length ws → get_or ws k 0 < length ps
  -- 23.2: the patch is not discarded
  pub discard : PatchDiscarded p → ⊥
  -- 23.3: how levels divide edges; and the vertices on outer edge k are those that its own level gives, with no inner vertex among them
  pub spacing : Subdivides rule
  pub outer_edges : Surface p → (k : ℕ) → k < length (outer_levels p) → places (edges p k) ps ≡ along (edge_number rule set p k)
  -- 23.5: every triangle turns the way asked for
  pub winding : Surface p → set.point_mode ≡ false → (f : Face) → Member f (faces_in ps ws) → Ordered set.order set.origin (winding_area f)
  -- 23.6, 23.7 and 23.8: triangles, quads and isolines
  pub numbering : Numbering
  pub vertices : VerticesOf rule set numbering p ps
  pub primitives : set.point_mode ≡ false → PrimitivesOf rule set numbering p ws
  -- 23.6 and 23.7: the triangles cover the whole patch, and no part of it twice
  pub cover : Surface p → set.point_mode ≡ false
      → Cover (turn_asked set) (twice_area_of p) (outline_by rule set p) ps (faces_in ps ws)
  pub once : SpotsOnce set p ps ws
  -- 23.9: in point mode, each vertex once
  pub point_mode : set.point_mode ≡ true → EachOnce ps ws
