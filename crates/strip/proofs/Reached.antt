-- The states that the walk along a strip reaches: after k steps there is exactly one state in which every outer step made comes
-- before the inner line's next step, and every inner step made before the outer line's next. It gives the triangle at any place
-- of the strip. Assumes nothing.
use Prim.Native.Nat.{ℕ, zero, suc, ◌+◌, ◌≤◌, ◌<◌}
use mathlib.Core.Path.{◌≡◌, refl, sym, ◌∙◌}
use mathlib.Core.Bool.{Bool, true, false, true≢false}
use native.Mathlib.Omega.{arith}
use lib.ListN.{get_or}
use Rattle.strip.specs.declared.triangle.Triangle.{Triangle}
use Rattle.strip.specs.Rule.{outer_next, step_outer, step_inner}
use Rattle.strip.specs.Strips.{step_triangle, strip_from, strip}
use Rattle.strip.proofs.Rule.{rule, step_sum}
use Rattle.strip.proofs.Order.{outer_sooner, inner_sooner}

-- point a of the outer line and point b of the inner line are reached together: every step made comes before the other line's next step
pub record Reached (p r a b : ℕ) : Type 0 where
  pub outer : a ≤ p
  pub inner : b ≤ r
  pub outer_made : (i : ℕ) → i < a → outer_next p r i b ≡ true
  pub inner_made : (j : ℕ) → j < b → outer_next p r a j ≡ false

-- the points reached after k steps
pub record After (p r k : ℕ) : Type 0 where
  pub a : ℕ
  pub b : ℕ
  pub reached : Reached p r a b
  pub sum : a + b ≡ k

module _ (p r : ℕ) where
  -- ---- every number of steps reaches a state
  -- no steps
  start : Reached p r 0 0
  start = record { outer = omega arith; inner = omega arith; outer_made = λ i h. absurd (omega arith); inner_made = λ j h. absurd (omega arith) }

  -- one more step, of the line that the rule names
  pub step_by : (t : Bool) (a b : ℕ) → Reached p r a b → outer_next p r a b ≡ t → step_outer t a ≤ p → step_inner t b ≤ r → Reached p r (step_outer t a) (step_inner t b)
  step_by true a b h e u v = record {
    outer = u;
    inner = v;
    outer_made = λ i l. outer_sooner p r i a b b (omega arith) (omega arith) e;
    inner_made = λ j l. inner_sooner p r a (suc a) j j (omega arith) (omega arith) (h.inner_made j l);
  }
  step_by false a b h e u v = record {
    outer = u;
    inner = v;
    outer_made = λ i l. outer_sooner p r i i b (suc b) (omega arith) (omega arith) (h.outer_made i l);
    inner_made = λ j l. inner_sooner p r a a j b (omega arith) (omega arith) e;
  }

  -- the same, if the lines are not at their ends
  pub step_on : (a b : ℕ) → Reached p r a b → a + b < p + r → Reached p r (step_outer (outer_next p r a b) a) (step_inner (outer_next p r a b) b)
  step_on a b h l = step_by (outer_next p r a b) a b h refl ((rule p r).outer a b h.outer h.inner l) ((rule p r).inner a b h.outer h.inner l)

  -- up to p + r steps
  pub after : (k : ℕ) → k ≤ p + r → After p r k
  after zero l = record { a = 0; b = 0; reached = start; sum = refl }
  after (suc k) l =
      let s = after k (omega arith) in
      let t = outer_next p r s.a s.b in
      record {
        a = step_outer t s.a;
        b = step_inner t s.b;
        reached = step_on s.a s.b s.reached (omega arith);
        sum = omega (arith, step_sum t s.a s.b);
      }

  -- ---- exactly one state
  -- the same number of steps does not lead further along the outer line
  no_further : {a b a' b' : ℕ} → Reached p r a b → Reached p r a' b' → a + b ≡ a' + b' → a < a' → ⊥
  no_further {a} {b} {a'} {b'} h k e l = true≢false (sym (k.outer_made a l) ∙ h.inner_made b' (omega arith))

  -- states with the same sum have the same points
  only : {a b a' b' : ℕ} → Reached p r a b → Reached p r a' b' → a + b ≡ a' + b' → a' ≡ a
  only h k e = omega (arith, no_further h k e, no_further k h (sym e))

  -- which line advanced, by the state after the step
  which : (t : Bool) (a b : ℕ) → Reached p r (step_outer t a) (step_inner t b) → outer_next p r a b ≡ t
  which true a b h = h.outer_made a (omega arith)
  which false a b h = h.inner_made b (omega arith)

  -- ---- the triangles between the states
  module _ (A B : ℕ → ℕ) (d : Triangle) where
    -- triangle k of n steps from one state, by the state reached after k steps
    steps_at : (n k a b a' b' : ℕ) → Reached p r a b → Reached p r a' b' → k < n → n + (a + b) ≡ p + r → k + (a + b) ≡ a' + b'
        → get_or (strip_from A B (outer_next p r) n a b) k d ≡ step_triangle A B (outer_next p r a' b') a' b'
    unfolding strip_from
    steps_at zero k a b a' b' h h' l e f = absurd (omega arith)
    steps_at (suc n) zero a b a' b' h h' l e f =
        let x : a' ≡ a = only h h' (omega arith) in
        let y : b' ≡ b = omega arith in
        rw (x, y)
    steps_at (suc n) (suc k) a b a' b' h h' l e f =
        let t = outer_next p r a b in
        let s = step_sum t a b in
        steps_at n k (step_outer t a) (step_inner t b) a' b' (step_on a b h (omega arith)) h' (omega arith) (omega arith) (omega arith)

    -- a triangle of a strip, by the states before and after its step
    pub triangle_at_lem : (t : Bool) (a b : ℕ) → Reached p r a b → Reached p r (step_outer t a) (step_inner t b) → get_or (strip A B p r) (a + b) d ≡ step_triangle A B t a b
    triangle_at_lem t a b h k =
        let s = step_sum t a b in
        rw (which t a b k) at (steps_at (p + r) (a + b) 0 0 a b start h (omega arith) (omega arith) (omega arith))
