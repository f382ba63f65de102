-- The triangles, lines or dots of every patch by vertex number, in drawing order. Assumes nothing.
use Rattle.std.specs.Prelude.{Bool, true, false, List, [], ◌∷◌, ℕ, length}
use Rattle.strip.specs.declared.triangle.Triangle.{Triangle as Corners}
use Rattle.strip.specs.Triangles.{indices}
use Rattle.mesh_topology.specs.Nest.{nest}
use Rattle.mesh_topology.specs.Quad.{quad, plain_quad}
use Rattle.mesh_topology.specs.Lines.{isolines, dots}
use Rattle.patch.specs.declared.settings.Settings.{Settings}
use Rattle.patch.specs.declared.subdivision.Subdivision.{Subdivision}
use Rattle.patch.specs.declared.subdivision.Subdivision.TheVariants.{Discarded, PlainTriangle, Triangle, PlainQuad, Quad, Lines}
use Rattle.patch.specs.Turn.{turn_asked}
use Rattle.patch_mesh.specs.Points.{points}

-- the triangles of a triangle or quad patch, in the strips' own orientation
unfoldable pub triangles : Subdivision → List Corners
triangles Discarded = []
triangles PlainTriangle = record { a = 0; b = 1; c = 2 } ∷ []
triangles (Triangle a b c i) = nest 0 a.count b.count c.count i.count
triangles PlainQuad = plain_quad 0
triangles (Quad a b c d m n) = quad 0 a.count b.count c.count d.count m.count n.count
triangles (Lines m n) = []

-- the index words of a patch's triangles, in the orientation asked for, or of its lines
abbrev pub primitives : Bool → Subdivision → List ℕ
primitives turn Discarded = []
primitives turn PlainTriangle = indices turn (triangles PlainTriangle)
primitives turn (Triangle a b c i) = indices turn (triangles (Triangle a b c i))
primitives turn PlainQuad = indices turn (triangles PlainQuad)
primitives turn (Quad a b c d m n) = indices turn (triangles (Quad a b c d m n))
primitives turn (Lines m n) = isolines m.count n.count

-- in point mode a patch has one dot per point instead
abbrev pub in_mode : Bool → Bool → Subdivision → List ℕ
in_mode false turn s = primitives turn s
in_mode true turn s = dots (length (points s))

-- the index words of a patch
unfoldable pub index_words : Settings → Subdivision → List ℕ
index_words set s = in_mode set.point_mode (turn_asked set) s
