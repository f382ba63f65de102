-- The sides and the rungs of a whole strip. Assumes nothing.
use Prim.Native.Nat.{ℕ, ◌+◌, ◌≤◌}
use mathlib.Core.Path.{◌≡◌}
use native.Mathlib.Omega.{arith}
use Rattle.strip.specs.Rule.{outer_next}
use Rattle.strip.specs.Strips.{strip}
use Rattle.strip.proofs.Rule.{rule}
use Rattle.mesh_topology.specs.Sides.{hit, flip, sum_sides, sum, line_sum}
use Rattle.mesh_topology.proofs.Walk.{Way, Rung, downs, sides, rung, rungs_once}

-- the sum of a weight over the strip's rungs
pub rungs : (ℕ → ℕ → ℕ) → (ℕ → ℕ) → (ℕ → ℕ) → ℕ → ℕ → ℕ
rungs f A B p r = downs f A B (outer_next p r) (p + r) 0 0

pub start : (p r : ℕ) → Way p r (p + r) 0 0
start p r = omega arith

module _ (A B : ℕ → ℕ) (p r : ℕ) where
  pub strip_sides : (f : ℕ → ℕ → ℕ)
      → sum_sides f (strip A B p r) + f (A 0) (B 0)
      ≡ rungs f A B p r + rungs (flip f) A B p r + f (A p) (B r) + line_sum f A p + line_sum (flip f) B r
  unfolding rungs sum
  strip_sides f = omega (arith, sides A B (outer_next p r) p r (rule p r) f (p + r) 0 0 (start p r))

  pub strip_rung : (x y : ℕ) → 1 ≤ rungs (hit x y) A B p r → Rung A B x y 0 0 p r
  unfolding rungs
  strip_rung x y = rung A B (outer_next p r) p r (rule p r) x y (p + r) 0 0 (start p r)

  pub strip_once : (x y : ℕ)
      → ((i i' j j' : ℕ) → i ≤ i' → i' ≤ p → j ≤ j' → j' ≤ r → A i ≡ A i' → B j ≡ B j' → i + j ≡ i' + j') → rungs (hit x y) A B p r ≤ 1
  unfolding rungs
  strip_once x y same = rungs_once A B (outer_next p r) p r (rule p r) x y same (p + r) 0 0 (start p r)
