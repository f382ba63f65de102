-- The triangles of a strip (document 01, "Strips"), for any numbering of the vertices of its two lines. Assumes nothing.
use Rattle.std.specs.Prelude.{ℕ, zero, suc, ◌+◌, Bool, true, false, List, [], ◌∷◌}
use Rattle.strip.specs.declared.triangle.Triangle.{Triangle}
use Rattle.strip.specs.Rule.{outer_next, step_outer, step_inner}

-- the triangle of one step at point a of the outer line A and point b of the inner line B; the flag says that A advances
abbrev pub step_triangle : (ℕ → ℕ) → (ℕ → ℕ) → Bool → ℕ → ℕ → Triangle
step_triangle A B true a b = record { a = A a; b = A (suc a); c = B b }
step_triangle A B false a b = record { a = A a; b = B (suc b); c = B b }

-- the triangles of n steps from the points a and b, where `next` says which line advances
unfoldable pub strip_from : (ℕ → ℕ) → (ℕ → ℕ) → (ℕ → ℕ → Bool) → ℕ → ℕ → ℕ → List Triangle
strip_from A B next zero a b = []
strip_from A B next (suc n) a b =
    step_triangle A B (next a b) a b ∷ strip_from A B next n (step_outer (next a b) a) (step_inner (next a b) b)

-- the whole strip between an outer line of p segments and an inner line of r
abbrev pub strip : (ℕ → ℕ) → (ℕ → ℕ) → ℕ → ℕ → List Triangle
strip A B p r = strip_from A B (outer_next p r) (p + r) 0 0
