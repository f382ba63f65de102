-- Two steps of a strip at a time: the outer line advances, then the inner line. Assumes nothing.
use Rattle.std.specs.Prelude.{ℕ, suc, ◌+◌, Bool, true, false, ◌≡◌, List, [], ◌∷◌}
use Rattle.buffer.specs.Over.{Wrote, flat}
use Rattle.strip.specs.declared.triangle.Triangle.{Triangle}
use Rattle.strip.specs.Triangles.{indices}
use Rattle.strip.specs.Strips.{step_triangle}

-- the two triangles of such a pair of steps, from point a of the outer line A and point b of the inner line B
abbrev pub pair : (ℕ → ℕ) → (ℕ → ℕ) → ℕ → ℕ → List Triangle
pair A B a b = step_triangle A B true a b ∷ step_triangle A B false (suc a) b ∷ []

-- the index words of n pairs from the points a and b
unfoldable pub pair_words : (ℕ → ℕ) → (ℕ → ℕ) → Bool → ℕ → ℕ → ℕ → List ℕ
pair_words A B positive a b n = flat (λ i. indices positive (pair A B (a + i) (b + i))) 0 n

-- n pairs are written, w is the place after them, and x and y are the vertices then reached on the outer and the inner line
pub record Paired (A B : ℕ → ℕ) (positive : Bool) (a b n : ℕ) (xs : List ℕ) (at : ℕ) (xs' : List ℕ) (w x y : ℕ) : Type 0 where
  pub wrote : Wrote xs at (pair_words A B positive a b n) xs' w
  pub outer : x ≡ A (a + n)
  pub inner : y ≡ B (b + n)
