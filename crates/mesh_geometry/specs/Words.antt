-- Points and triangles as words, written and read back. Assumes nothing.
use Rattle.std.specs.Prelude.{ℕ, List, [], ◌∷◌, ◌++◌}
use Rattle.strip.specs.declared.triangle.Triangle.{Triangle}
use Rattle.mesh_geometry.specs.declared.Point.{Point}

-- a point as three words
abbrev pub coordinate_words : Point → List ℕ
coordinate_words p = p.u ∷ p.v ∷ p.w ∷ []

-- the words of all points, in order
unfoldable pub vertex_words : List Point → List ℕ
vertex_words [] = []
vertex_words (p ∷ ps) = coordinate_words p ++ vertex_words ps

-- the points that words hold, three words each
unfoldable pub read_points : List ℕ → List Point
read_points [] = []
read_points (u ∷ []) = []
read_points (u ∷ v ∷ []) = []
read_points (u ∷ v ∷ w ∷ rest) = record { u = u; v = v; w = w } ∷ read_points rest

-- the triangles that index words hold, three words each
unfoldable pub read_triangles : List ℕ → List Triangle
read_triangles [] = []
read_triangles (a ∷ []) = []
read_triangles (a ∷ b ∷ []) = []
read_triangles (a ∷ b ∷ c ∷ rest) = record { a = a; b = b; c = c } ∷ read_triangles rest
