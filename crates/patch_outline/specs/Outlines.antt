-- The outer edges of a patch, and the words of its outline. Assumes nothing.
use Rattle.std.specs.Prelude.{ℕ, ◌≤◌, ◌≡◌, List, [], ◌∷◌, length, take, Option, None, Some}
use Rattle.level.specs.declared.Spacing.{Spacing}
use Rattle.level.specs.Segments.{segments_of, Valid}
use Rattle.patch.specs.declared.kinds.Patch.{Patch}
use Rattle.patch.specs.declared.kinds.Patch.TheVariants.{Triangles, Quads, Isolines}
use Rattle.mesh_geometry.specs.declared.Point.{Point}
use Rattle.mesh_geometry.specs.Edge.{ring}
use Rattle.mesh_geometry.specs.Segmented.{run}
use Rattle.mesh_geometry.specs.TrianglePoints.{triangle_place}
use Rattle.mesh_geometry.specs.QuadPoints.{quad_place}
use Rattle.mesh_geometry.specs.Words.{vertex_words}
use Rattle.patch_outline.specs.declared.edges.OuterEdges.{OuterEdges}
use Rattle.patch_outline.specs.declared.edges.OuterEdges.TheVariants.{Triangle, Quad}

-- the outer edges of a patch; isolines have no outline
abbrev pub edges_of : Spacing → ℕ → Patch → Option OuterEdges
edges_of s t (Triangles a b c i) = Some (Triangle (segments_of s t a) (segments_of s t b) (segments_of s t c))
edges_of s t (Quads a b c d i j) = Some (Quad (segments_of s t a) (segments_of s t b) (segments_of s t c) (segments_of s t d))
edges_of s t (Isolines a b) = None

-- every outer edge has valid n and L
abbrev pub ValidEdges : Option OuterEdges → Type 0
ValidEdges (Some (Triangle e f g)) = Valid e.count e.scaled × Valid f.count f.scaled × Valid g.count g.scaled
ValidEdges (Some (Quad e f g h)) = Valid e.count e.scaled × Valid f.count f.scaled × Valid g.count g.scaled × Valid h.count h.scaled
ValidEdges None = Unit {0}

-- the points of the outline with these outer edges
abbrev pub outline_by : Option OuterEdges → List Point
outline_by (Some (Triangle e f g)) = ring triangle_place 0 (run e ∷ run f ∷ run g ∷ []) 0
outline_by (Some (Quad e f g h)) = ring quad_place 0 (run e ∷ run f ∷ run g ∷ run h ∷ []) 0
outline_by None = []

-- the first `count` words are those of the points ps
pub record OutlineOf (ps : List Point) (words : List ℕ) (count : ℕ) : Type 0 where
  pub fits : count ≤ length words
  pub is : take count words ≡ vertex_words ps
