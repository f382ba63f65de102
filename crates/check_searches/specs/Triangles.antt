-- Searches among triangles and their directed sides (half-edges). Assumes nothing.
use Rattle.std.specs.Prelude.{ℕ, Bool, ◌&&◌, ◌||◌, List, length, get_or, ltb, eqb}
use Rattle.strip.specs.declared.triangle.Triangle.{Triangle}
use Rattle.check_searches.specs.First.{first, some_below}

-- the value of a look-up past the end of a list of triangles; the statements below never use it
abbrev pub no_triangle : Triangle
no_triangle = record { a = 0; b = 0; c = 0 }

-- triangle number k
abbrev pub triangle_at : List Triangle → ℕ → Triangle
triangle_at ts k = get_or ts k no_triangle

-- whether x is a corner of the triangle
abbrev pub has_corner : Triangle → ℕ → Bool
has_corner t x = eqb t.a x || eqb t.b x || eqb t.c x

-- whether x→y is a directed side of the triangle
abbrev pub has_side : Triangle → ℕ → ℕ → Bool
has_side t x y = eqb x t.a && eqb y t.b || eqb x t.b && eqb y t.c || eqb x t.c && eqb y t.a

-- whether x→y is a directed side of one of the triangles
abbrev pub some_side : List Triangle → ℕ → ℕ → Bool
some_side ts x y = some_below (λ i. has_side (triangle_at ts i) x y) (length ts)

-- whether the two triangles have a directed side in common
unfoldable pub share_side : Triangle → Triangle → Bool
share_side s t = has_side t s.a s.b || has_side t s.b s.c || has_side t s.c s.a

-- the first of the first n triangles that has a directed side in common with t
abbrev pub first_sharing : List Triangle → Triangle → ℕ → ℕ
first_sharing ts t n = first (λ i. share_side (triangle_at ts i) t) n

-- whether triangle j has a directed side in common with an earlier triangle
abbrev pub reuses : List Triangle → ℕ → Bool
reuses ts j = ltb (first_sharing ts (triangle_at ts j) j) j

-- the first triangle that has a directed side in common with an earlier triangle
unfoldable pub first_reused : List Triangle → ℕ
first_reused ts = first (reuses ts) (length ts)
