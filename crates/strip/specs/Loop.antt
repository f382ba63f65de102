-- Document 01's loop along a strip, with request 4's rule for ties. Assumes nothing.
use Rattle.std.specs.Prelude.{ℕ, suc, ◌+◌, ◌*◌, ◌≤◌, ◌<◌, ◌≡◌, ◌⊎◌, List, [], ◌∷◌}
use Rattle.strip.specs.declared.triangle.Triangle.{Triangle}

-- the loop's condition at point a of the outer line and point b of the inner line: a < p or b < r
abbrev pub GoesOn : ℕ → ℕ → ℕ → ℕ → Type 0
GoesOn p r a b = (a < p) ⊎ (b < r)

-- the outer line advances: (2a + 1)·r is less than (2b + 1)·p, or equal to it with 2a + 1 <= p; otherwise the inner line advances
abbrev pub OuterMoves : ℕ → ℕ → ℕ → ℕ → Type 0
OuterMoves p r a b = ((2 * a + 1) * r < (2 * b + 1) * p) ⊎ (((2 * a + 1) * r ≡ (2 * b + 1) * p) × (2 * a + 1 ≤ p))

-- `Loop A B p r a b ts c d`: from the points a and b the loop runs to the points c and d and gives the triangles ts, one per step
pub data Loop (A B : ℕ → ℕ) (p r : ℕ) : ℕ → ℕ → List Triangle → ℕ → ℕ → Type 0 where
  ends : {a b : ℕ} → (GoesOn p r a b → ⊥) → Loop A B p r a b [] a b
  outer : {a b : ℕ} {ts : List Triangle} {c d : ℕ} → GoesOn p r a b → OuterMoves p r a b → Loop A B p r (suc a) b ts c d
      → Loop A B p r a b (record { a = A a; b = A (suc a); c = B b } ∷ ts) c d
  inner : {a b : ℕ} {ts : List Triangle} {c d : ℕ} → GoesOn p r a b → (OuterMoves p r a b → ⊥) → Loop A B p r a (suc b) ts c d
      → Loop A B p r a b (record { a = A a; b = B (suc b); c = B b } ∷ ts) c d
