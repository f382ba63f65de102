-- The places of a mesh's points along one of its outer edges. Assumes nothing.
use Rattle.std.specs.Prelude.{ℕ, zero, suc, ◌-◌, ◌/◌, ◌≡◌, Bool, cond, List, [], ◌∷◌, map, reverse, leb, eqb}
use Rattle.mesh_geometry.specs.declared.Point.{Point}

-- the points that pass the test
unfoldable pub keep : (Point → Bool) → List Point → List Point
keep test [] = []
keep test (p ∷ ps) = cond (test p) (p ∷ keep test ps) (keep test ps)

-- x inserted into a list in rising order
unfoldable pub insert : ℕ → List ℕ → List ℕ
insert x [] = x ∷ []
insert x (y ∷ ys) = cond (leb x y) (x ∷ (y ∷ ys)) (y ∷ insert x ys)

-- the numbers of a list in rising order
unfoldable pub sorted : List ℕ → List ℕ
unfolding insert
sorted [] = []
sorted (x ∷ xs) = insert x (sorted xs)

-- an outer edge: which points lie on it, and how far along it a point lies, in units of 1/65,536 of its length
pub record OuterEdge : Type 0 where
  pub on : Point → Bool
  pub along : Point → ℕ

-- the places of all points on the edge, in walk order
unfoldable pub places : OuterEdge → List Point → List ℕ
unfolding keep sorted
places e ps = sorted (map e.along (keep e.on ps))

-- the three edges of a triangle patch: u = 0 from V to W, v = 0 from W to U, w = 0 from U to V; the place of a point is a third
-- of its end coordinate
abbrev pub triangle_edge : ℕ → OuterEdge
triangle_edge zero = record { on = λ p. eqb p.u 0; along = λ p. p.w / 3 }
triangle_edge (suc zero) = record { on = λ p. eqb p.v 0; along = λ p. p.u / 3 }
triangle_edge (suc (suc k)) = record { on = λ p. eqb p.w 0; along = λ p. p.v / 3 }

-- the four edges of a quad patch, in walk order from (0, 1); the place of a point is its distance from the start of the edge
abbrev pub quad_edge : ℕ → OuterEdge
quad_edge zero = record { on = λ p. eqb p.u 0; along = λ p. 65536 - p.v }
quad_edge (suc zero) = record { on = λ p. eqb p.v 0; along = λ p. p.u }
quad_edge (suc (suc zero)) = record { on = λ p. eqb p.u 65536; along = λ p. p.v }
quad_edge (suc (suc (suc k))) = record { on = λ p. eqb p.v 65536; along = λ p. 65536 - p.u }

-- the places are the same when the edge is walked from its other end
abbrev pub Mirrors : List ℕ → Type 0
Mirrors qs = map (λ q. 65536 - q) (reverse qs) ≡ qs
