-- Triangles by the numbers of their vertices, and the index words of triangles. Assumes nothing.
use Rattle.std.specs.Prelude.{ℕ, Bool, true, false, List, [], ◌∷◌, ◌++◌}
use Rattle.strip.specs.declared.triangle.Triangle.{Triangle}

-- the three index words of a triangle
abbrev pub corners : Triangle → List ℕ
corners t = t.a ∷ t.b ∷ t.c ∷ []

-- a triangle in the orientation asked for: if that is not the strips' own, the second and the third corner change places
abbrev pub turned : Bool → Triangle → Triangle
turned true t = t
turned false t = record { a = t.a; b = t.c; c = t.b }

-- the index words of triangles, in the orientation asked for
unfoldable pub indices : Bool → List Triangle → List ℕ
indices positive [] = []
indices positive (t ∷ ts) = corners (turned positive t) ++ indices positive ts
