-- The mirror of a strip: walked from the other end, the strip has the same triangles in reverse order, except the two between
-- the middle segments of two odd lines, which are split along the other diagonal. Assumes nothing.
use Prim.Native.Nat.{ℕ, zero, suc, ◌+◌, ◌-◌, ◌*◌, ◌/◌, ◌≤◌, ◌<◌}
use mathlib.Core.Path.{◌≡◌, refl}
use mathlib.Core.Bool.{Bool, true, false}
use mathlib.Core.List.Perm
use mathlib.Core.List.{[], ◌∷◌}
use native.Mathlib.Omega.{arith}
use native.Mathlib.Nat.{sub-zero}
use lib.ListN.{get_or}
use Rattle.strip.specs.declared.triangle.Triangle.{Triangle}
use Rattle.strip.specs.Rule.{outer_next, step_outer, step_inner}
use Rattle.strip.specs.Strips.{step_triangle, strip}
use Rattle.strip.specs.Mirror.{from_end, mirror, SameCorners, BothOdd, SplitsQuad}
use Rattle.strip.proofs.Rule.{outer_ended, inner_ended, step_sum}
use Rattle.strip.proofs.Order.{outer_sooner, mirror_outer, mirror_inner, middle_outer, middle_inner, before_middle}
use Rattle.strip.proofs.Reached.{Reached, step_by, step_on, after, triangle_at_lem}

-- the state after k steps is not the one between the two middle steps of odd lines
abbrev Clear : ℕ → ℕ → ℕ → Type 0
Clear p r k = BothOdd p r → 2 * k ≡ p + r → ⊥

module _ (p r : ℕ) where
  -- ---- a state seen from the other end
  -- the outer line's steps up to it come before the inner line's next step
  outer_from_end : (a b i : ℕ) → ((j : ℕ) → j < b → outer_next p r a j ≡ false) → i < p - a → outer_next p r i (r - b) ≡ true
  outer_from_end a zero i h l = rw sub-zero (inner_ended p r i (omega arith))
  outer_from_end a (suc j) i h l = mirror_outer p r a i j (r - suc j) (omega arith) (omega arith) (h j (omega arith))

  -- the inner line's steps up to it come before the outer line's next step
  inner_from_end : (a b j : ℕ) → (2 * a ≡ suc p → 2 * b + 1 ≡ r → ⊥) → ((i : ℕ) → i < a → outer_next p r i b ≡ true) → j < r - b → outer_next p r (p - a) j ≡ false
  inner_from_end zero b j n h l = rw sub-zero (outer_ended p r j (omega arith))
  inner_from_end (suc i) b j n h l = mirror_inner p r i (p - suc i) b j (λ o. n (omega arith)) (omega arith) (omega arith) (h i (omega arith))

  -- the state is reached from the other end too
  from_end_lem : (a b : ℕ) → Reached p r a b → Clear p r (a + b) → Reached p r (p - a) (r - b)
  from_end_lem a b h n = record {
    outer = omega arith;
    inner = omega arith;
    outer_made = λ i. outer_from_end a b i h.inner_made;
    inner_made = λ j. inner_from_end a b j (λ u v. n (omega arith) (omega arith)) h.outer_made;
  }

  -- from the other end, the step from the state after a step leads to the state before it
  outer_back : (t : Bool) (a : ℕ) → step_outer t a ≤ p → step_outer t (p - step_outer t a) ≡ p - a
  outer_back true a h = omega arith
  outer_back false a h = refl

  inner_back : (t : Bool) (b : ℕ) → step_inner t b ≤ r → step_inner t (r - step_inner t b) ≡ r - b
  inner_back true b h = refl
  inner_back false b h = omega arith

module _ (A B : ℕ → ℕ) (p r : ℕ) where
  -- the triangle of a step has the same corners as that of the step back
  same_corners_lem : (t : Bool) (a b : ℕ) → step_outer t a ≤ p → step_inner t b ≤ r
      → SameCorners (step_triangle (from_end p A) (from_end r B) t (p - step_outer t a) (r - step_inner t b)) (step_triangle A B t a b)
  same_corners_lem true a b h k =
      let x : p - (p - suc a) ≡ suc a = omega arith in
      let y : p - suc (p - suc a) ≡ a = omega arith in
      let z : r - (r - b) ≡ b = omega arith in
      rw (x, y, z) (Perm.swap (A a) (A (suc a)) (B b ∷ []))
  same_corners_lem false a b h k =
      let x : p - (p - a) ≡ a = omega arith in
      let y : r - suc (r - suc b) ≡ b = omega arith in
      let z : r - (r - suc b) ≡ suc b = omega arith in
      rw (x, y, z) (Perm.cons (A a) (Perm.swap (B (suc b)) (B b) []))

  -- triangle k from the other end, by the states before and after the step that leaves k steps to go
  step_back : (t : Bool) (a b k : ℕ) → Reached p r a b → Reached p r (step_outer t a) (step_inner t b) → suc (a + b + k) ≡ p + r → Clear p r k → Clear p r (suc k)
      → (d : Triangle) → SameCorners (get_or (mirror A B p r) k d) (get_or (strip A B p r) (a + b) d)
  step_back t a b k h h' e n n' d =
      let s = step_sum t a b in
      let a' = p - step_outer t a in
      let b' = r - step_inner t b in
      let from : Reached p r a' b' = from_end_lem p r (step_outer t a) (step_inner t b) h' (λ o f. n o (omega arith)) in
      let to : Reached p r (p - a) (r - b) = from_end_lem p r a b h (λ o f. n' o (omega arith)) in
      let on : Reached p r (step_outer t a') (step_inner t b') = rw (outer_back p r t a h'.outer, inner_back p r t b h'.inner) to in
      let place : a' + b' ≡ k = omega arith in
      rw (triangle_at_lem p r A B d t a b h h', ← place, triangle_at_lem p r (from_end p A) (from_end r B) d t a' b' from on) (same_corners_lem t a b h'.outer h'.inner)

  -- the same for every k
  at_place : (k : ℕ) → k < p + r → Clear p r k → Clear p r (suc k) → (d : Triangle) → SameCorners (get_or (mirror A B p r) k d) (get_or (strip A B p r) (p + r - 1 - k) d)
  at_place k l n n' d =
      let s = after p r (p + r - 1 - k) (omega arith) in
      let t = outer_next p r s.a s.b in
      rw (← s.sum) (step_back t s.a s.b k s.reached (step_on p r s.a s.b s.reached (omega arith)) (omega arith) n n' d)

  -- unless both lines are odd, triangle k from the other end has the corners of the k-th triangle from the end
  pub mirrored : (BothOdd p r → ⊥) → (k : ℕ) → k < p + r → (d : Triangle) → SameCorners (get_or (mirror A B p r) k d) (get_or (strip A B p r) (p + r - 1 - k) d)
  mirrored n k l = at_place k l (λ o e. n o) (λ o e. n o)

  -- if both are odd, this holds for all triangles but the middle two
  pub mirrored_but_middle : (k : ℕ) → k < p + r → (suc k ≡ (p + r) / 2 → ⊥) → (k ≡ (p + r) / 2 → ⊥) → (d : Triangle)
      → SameCorners (get_or (mirror A B p r) k d) (get_or (strip A B p r) (p + r - 1 - k) d)
  mirrored_but_middle k l m m' = at_place k l (λ o e. m' (omega arith)) (λ o e. m (omega arith))

-- ---- the middle two triangles of two odd lines
-- the walk reaches both middle segments together
to_middle : (a b : ℕ) → Reached (2 * a + 1) (2 * b + 1) a b
to_middle a b = record {
  outer = omega arith;
  inner = omega arith;
  outer_made = λ i l. outer_sooner (2 * a + 1) (2 * b + 1) i a b b (omega arith) (omega arith) (middle_outer a b);
  inner_made = before_middle a b;
}

-- from there the outer line advances, then the inner line
pub middle : (A B : ℕ → ℕ) (a b : ℕ) → SplitsQuad (strip A B (2 * a + 1) (2 * b + 1)) (a + b) (A a) (A (suc a)) (B b) (B (suc b))
middle A B a b =
    let p = 2 * a + 1 in
    let r = 2 * b + 1 in
    let on = step_by p r true a b (to_middle a b) (middle_outer a b) (omega arith) (omega arith) in
    let past = step_by p r false (suc a) b on (middle_inner a b) (omega arith) (omega arith) in
    let e : suc a + b ≡ suc (a + b) = omega arith in
    record { first = λ d. triangle_at_lem p r A B d true a b (to_middle a b) on; second = λ d. rw e at (triangle_at_lem p r A B d false (suc a) b on past) }

-- from the other end the same four corners are split along the other diagonal
pub middle_mirrored : (A B : ℕ → ℕ) (a b : ℕ) → SplitsQuad (mirror A B (2 * a + 1) (2 * b + 1)) (a + b) (A (suc a)) (A a) (B (suc b)) (B b)
middle_mirrored A B a b =
    let x : 2 * a + 1 - a ≡ suc a = omega arith in
    let u : 2 * a + 1 - suc a ≡ a = omega arith in
    let y : 2 * b + 1 - b ≡ suc b = omega arith in
    let v : 2 * b + 1 - suc b ≡ b = omega arith in
    rw (x, u, y, v) at (middle (from_end (2 * a + 1) A) (from_end (2 * b + 1) B) a b)
