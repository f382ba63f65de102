-- The walk along a strip, step by step: its sides and its rungs. Assumes nothing.
use Prim.Native.Nat.{ℕ, zero, suc, ◌+◌, ◌≤◌, ◌<◌}
use mathlib.Core.Path.{◌≡◌}
use mathlib.Core.Bool.{Bool, true, false}
use native.Mathlib.Omega.{arith}
use native.Mathlib.Decide.{dec_le}
use Rattle.strip.specs.Rule.{step_outer, step_inner}
use Rattle.strip.specs.Strips.{step_triangle, strip_from}
use Rattle.strip.proofs.Rule.{Rule, step_sum}
use Rattle.mesh_topology.specs.Sides.{hit, flip, side_sum, sum_sides, sum, line_sum}
use Rattle.mesh_topology.proofs.Sums.{none}
use Rattle.mesh_topology.proofs.Hits.{hit_le, hit_at}

-- the sum of a weight over the walk's rungs, from the inner line to the outer
unfoldable pub downs : (ℕ → ℕ → ℕ) → (ℕ → ℕ) → (ℕ → ℕ) → (ℕ → ℕ → Bool) → ℕ → ℕ → ℕ → ℕ
downs f A B next zero a b = 0
downs f A B next (suc n) a b = f (B b) (A a) + downs f A B next n (step_outer (next a b) a) (step_inner (next a b) b)

-- one step: the sides of its triangle are a segment and two rungs
step_sides : (f : ℕ → ℕ → ℕ) (A B : ℕ → ℕ) (t : Bool) (a b : ℕ)
    → side_sum f (step_triangle A B t a b) + line_sum f A a + line_sum (flip f) B b
    ≡ f (B b) (A a) + f (A (step_outer t a)) (B (step_inner t b)) + line_sum f A (step_outer t a) + line_sum (flip f) B (step_inner t b)
unfolding sum
step_sides f A B true a b = omega arith
step_sides f A B false a b = omega arith

step_grows : (t : Bool) (a b : ℕ) → (a ≤ step_outer t a) × (b ≤ step_inner t b)
step_grows true a b = omega arith
step_grows false a b = omega arith

-- a state on the way to p and r, with n steps to go
pub record Way (p r n a b : ℕ) : Type 0 where
  pub outer : a ≤ p
  pub inner : b ≤ r
  pub left : n + a + b ≡ p + r

-- a rung on the way from a and b, before the end
pub record Rung (A B : ℕ → ℕ) (x y a b p r : ℕ) : Type 0 where
  pub i : ℕ
  pub j : ℕ
  pub i_from : a ≤ i
  pub j_from : b ≤ j
  pub i_to : i ≤ p
  pub j_to : j ≤ r
  pub before : i + j < p + r
  pub start : x ≡ B j
  pub end : y ≡ A i

module _ (A B : ℕ → ℕ) (next : ℕ → ℕ → Bool) (p r : ℕ) (rule : Rule next p r) where
  pub on : (n a b : ℕ) → Way p r (suc n) a b → Way p r n (step_outer (next a b) a) (step_inner (next a b) b)
  on n a b w = record {
    outer = rule.outer a b w.outer w.inner (omega arith);
    inner = rule.inner a b w.outer w.inner (omega arith);
    left = omega (arith, step_sum (next a b) a b);
  }

  pub sides : (f : ℕ → ℕ → ℕ) (n a b : ℕ) → Way p r n a b
      → sum_sides f (strip_from A B next n a b) + f (A a) (B b) + line_sum f A a + line_sum (flip f) B b
      ≡ downs f A B next n a b + downs (flip f) A B next n a b + f (A p) (B r) + line_sum f A p + line_sum (flip f) B r
  unfolding strip_from downs sum_sides
  sides f zero a b w =
      let e : a ≡ p = omega arith in
      let g : b ≡ r = omega arith in
      rw (e, g) (omega arith)
  sides f (suc n) a b w = omega (arith, step_sides f A B (next a b) a b, sides f n _ _ (on n a b w))

  pub rung : (x y n a b : ℕ) → Way p r n a b → 1 ≤ downs (hit x y) A B next n a b → Rung A B x y a b p r
  unfolding downs
  rung x y zero a b w h = absurd (omega arith)
  rung x y (suc n) a b w h =
      elim (dec_le 1 (hit x y (B b) (A a))) [
        | yes l ↦ record {
          i = a;
          j = b;
          i_from = omega arith;
          j_from = omega arith;
          i_to = w.outer;
          j_to = w.inner;
          before = omega arith;
          start = (hit_at x y _ _ l).0;
          end = (hit_at x y _ _ l).1;
        }
        | no l ↦ let s = rung x y n _ _ (on n a b w) (omega arith) in
            record {
              i = s.i;
              j = s.j;
              i_from = omega (arith, step_grows (next a b) a b);
              j_from = omega (arith, step_grows (next a b) a b);
              i_to = s.i_to;
              j_to = s.j_to;
              before = s.before;
              start = s.start;
              end = s.end;
            }
      ]

  pub rungs_once : (x y : ℕ)
      → ((i i' j j' : ℕ) → i ≤ i' → i' ≤ p → j ≤ j' → j' ≤ r → A i ≡ A i' → B j ≡ B j' → i + j ≡ i' + j')
      → (n a b : ℕ) → Way p r n a b → downs (hit x y) A B next n a b ≤ 1
  unfolding downs
  rungs_once x y same zero a b w = omega arith
  rungs_once x y same (suc n) a b w =
      elim (dec_le 1 (hit x y (B b) (A a))) [
        | yes l ↦ omega (arith, hit_le x y (B b) (A a), none (downs (hit x y) A B next n _ _) (λ k. later l (rung x y n _ _ (on n a b w) k)))
        | no l ↦ omega (arith, rungs_once x y same n _ _ (on n a b w))
      ]
    where
      later : 1 ≤ hit x y (B b) (A a) → Rung A B x y (step_outer (next a b) a) (step_inner (next a b) b) p r → ⊥
      later l s =
          let at = hit_at x y _ _ l in
          let grows = step_grows (next a b) a b in
          omega (
            arith,
            step_sum (next a b) a b,
            same a s.i b s.j (omega arith) s.i_to (omega arith) s.j_to (cc) (cc),
          )
