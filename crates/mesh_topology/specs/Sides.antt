-- The directed sides of triangles by vertex number, and sums of a weight over sides. Assumes nothing.
use Rattle.std.specs.Prelude.{ℕ, zero, suc, ◌+◌, Bool, true, false, List, [], ◌∷◌, eqb}
use Rattle.strip.specs.declared.triangle.Triangle.{Triangle}

-- 1 if both tests pass, else 0
abbrev pub both : Bool → Bool → ℕ
both true true = 1
both true false = 0
both false true = 0
both false false = 0

-- 1 if the directed side x→y is p→q, else 0
unfoldable pub hit : ℕ → ℕ → ℕ → ℕ → ℕ
hit x y p q = both (eqb x p) (eqb y q)

-- the weight f with each side reversed
abbrev pub flip : (ℕ → ℕ → ℕ) → ℕ → ℕ → ℕ
flip f p q = f q p

-- the sum of f over the three sides of a triangle
abbrev pub side_sum : (ℕ → ℕ → ℕ) → Triangle → ℕ
side_sum f t = f t.a t.b + f t.b t.c + f t.c t.a

-- the sum of f over the sides of all triangles
unfoldable pub sum_sides : (ℕ → ℕ → ℕ) → List Triangle → ℕ
sum_sides f [] = 0
sum_sides f (t ∷ ts) = side_sum f t + sum_sides f ts

-- w 0 + .. + w (n - 1)
unfoldable pub sum : (ℕ → ℕ) → ℕ → ℕ
sum w zero = 0
sum w (suc n) = sum w n + w n

-- the sum of f over the first n segments of a line, F 0 → F 1 → .. → F n
abbrev pub line_sum : (ℕ → ℕ → ℕ) → (ℕ → ℕ) → ℕ → ℕ
line_sum f F n = sum (λ k. f (F k) (F (suc k))) n

-- how often x→y is a side of one of the triangles
abbrev pub uses : ℕ → ℕ → List Triangle → ℕ
uses x y ts = sum_sides (hit x y) ts
