-- Laws of a strip's triangles and of their index words. Assumes nothing.
use Prim.Native.Nat.{ℕ, zero, suc, ◌+◌, ◌-◌, ◌*◌, ◌≤◌, ◌<◌}
use mathlib.Core.Path.{◌≡◌, refl, ap, ap₂, ◌∙◌}
use mathlib.Core.Bool.{Bool, true, false}
use mathlib.Core.List.{List, [], ◌∷◌, ◌++◌}
use native.Mathlib.Omega.{arith}
use lib.ListN.{length}
use Rattle.strip.specs.declared.triangle.Triangle.{Triangle}
use Rattle.strip.specs.declared.line.Line.{Line}
use Rattle.strip.specs.Lines.{vertex, Follows}
use Rattle.strip.specs.Triangles.{corners, turned, indices}
use Rattle.strip.specs.Rule.{outer_next, step_outer, step_inner}
use Rattle.strip.specs.Strips.{step_triangle, strip_from, strip}
use Rattle.strip.proofs.Rule.{rule, step_sum}

-- ---- the words of triangles: three each, and joined lists
pub indices_length : (positive : Bool) (ts : List Triangle) → length (indices positive ts) ≡ 3 * length ts
unfolding indices
indices_length positive [] = refl
indices_length true (t ∷ ts) = omega (arith, indices_length true ts)
indices_length false (t ∷ ts) = omega (arith, indices_length false ts)

pub indices_append : (positive : Bool) (s t : List Triangle) → indices positive (s ++ t) ≡ indices positive s ++ indices positive t
unfolding indices
indices_append positive [] t = refl
indices_append true (u ∷ s) t = rw (indices_append true s t)
indices_append false (u ∷ s) t = rw (indices_append false s t)

-- ---- the steps of a strip
module _ (A B : ℕ → ℕ) (next : ℕ → ℕ → Bool) where
  pub steps_length : (n a b : ℕ) → length (strip_from A B next n a b) ≡ n
  unfolding strip_from
  steps_length zero a b = refl
  steps_length (suc n) a b = ap suc (steps_length n (step_outer (next a b) a) (step_inner (next a b) b))

  -- no steps left, and one step of several
  pub steps_none : (n a b : ℕ) → n ≤ 0 → strip_from A B next n a b ≡ []
  unfolding strip_from
  steps_none zero a b h = refl
  steps_none (suc n) a b h = absurd (omega arith)

  pub steps_more : (n a b : ℕ) → 0 < n
      → strip_from A B next n a b ≡ step_triangle A B (next a b) a b ∷ strip_from A B next (n - 1) (step_outer (next a b) a) (step_inner (next a b) b)
  unfolding strip_from
  steps_more zero a b h = absurd (omega arith)
  steps_more (suc n) a b h =
      let e : suc n - 1 ≡ n = omega arith in
      rw e

-- as many triangles as both lines have segments
pub strip_length : (A B : ℕ → ℕ) (p r : ℕ) → length (strip A B p r) ≡ p + r
strip_length A B p r = steps_length A B (outer_next p r) (p + r) 0 0

-- three words per step
pub words_length : (A B : ℕ → ℕ) (next : ℕ → ℕ → Bool) (positive : Bool) (n a b : ℕ) → length (indices positive (strip_from A B next n a b)) ≡ 3 * n
words_length A B next positive n a b = omega (arith, indices_length positive (strip_from A B next n a b), steps_length A B next n a b)

-- the words of one step of several, as the writing loop has them
pub words_more : (A B : ℕ → ℕ) (next : ℕ → ℕ → Bool) (positive : Bool) (n a b : ℕ) (t : Triangle) (n' a' b' : ℕ) → 0 < n → n' ≡ n - 1
    → t ≡ step_triangle A B (next a b) a b → a' ≡ step_outer (next a b) a → b' ≡ step_inner (next a b) b
    → indices positive (strip_from A B next n a b) ≡ corners (turned positive t) ++ indices positive (strip_from A B next n' a' b')
unfolding indices
words_more A B next positive n a b t n' a' b' h d e f g = rw (steps_more A B next n a b h, d, e, f, g)

-- ---- a strip depends only on the points of its lines
step_same : (A A' B B' : ℕ → ℕ) (t : Bool) (a b : ℕ) → A a ≡ A' a → A (step_outer t a) ≡ A' (step_outer t a) → B b ≡ B' b → B (step_inner t b) ≡ B' (step_inner t b)
    → step_triangle A B t a b ≡ step_triangle A' B' t a b
step_same A A' B B' true a b h k u v = rw (h, k, u)
step_same A A' B B' false a b h k u v = rw (h, u, v)

module _ (A A' B B' : ℕ → ℕ) (p r : ℕ) (outer : (i : ℕ) → i ≤ p → A i ≡ A' i) (inner : (j : ℕ) → j ≤ r → B j ≡ B' j) where
  steps_same : (n a b : ℕ) → a ≤ p → b ≤ r → n + a + b ≡ p + r → strip_from A B (outer_next p r) n a b ≡ strip_from A' B' (outer_next p r) n a b
  unfolding strip_from
  steps_same zero a b u v w = refl
  steps_same (suc n) a b u v w =
      let t = outer_next p r a b in
      let x = (rule p r).outer a b u v (omega arith) in
      let y = (rule p r).inner a b u v (omega arith) in
      ap₂ (λ (s : Triangle) (ts : List Triangle). s ∷ ts)
      (step_same A A' B B' t a b (outer a u) (outer (step_outer t a) x) (inner b v) (inner (step_inner t b) y))
      (steps_same n (step_outer t a) (step_inner t b) x y (omega (arith, step_sum t a b)))

  pub strip_same : strip A B p r ≡ strip A' B' p r
  strip_same = steps_same (p + r) 0 0 (omega arith) (omega arith) (omega arith)

-- a strip between two lines is the strip between the functions that they follow
pub strip_follows : {o i : Line} {F G : ℕ → ℕ} {p r : ℕ} → Follows o F p → Follows i G r → strip (vertex o) (vertex i) o.count i.count ≡ strip F G p r
strip_follows {o} {i} {F} {G} {p} {r} h k =
    ap₂ (λ (x y : ℕ). strip (vertex o) (vertex i) x y) h.count k.count ∙ strip_same (vertex o) F (vertex i) G p r h.at k.at
