-- Triangles that fill a closed line. Assumes nothing.
use Prim.Native.Nat.{ℕ, ◌+◌, ◌≤◌, ◌<◌, min, max}
use mathlib.Core.Path.{◌≡◌}
use mathlib.Core.List.{List}
use native.Mathlib.Omega.{arith}
use Rattle.strip.specs.declared.triangle.Triangle.{Triangle}
use Rattle.mesh_topology.specs.Sides.{hit, flip, sum_sides, uses}
use Rattle.mesh_topology.proofs.Hits.{hit_flip}

-- the triangles' sides together with the line's segments reversed: each occurs as often as its reverse, none occurs twice, and
-- all vertices lie from `low` up to `top`; `line f` is the sum of f over the line's segments
pub record Fills (low top : ℕ) (line : (ℕ → ℕ → ℕ) → ℕ) (ts : List Triangle) : Type 0 where
  pub even : (f : ℕ → ℕ → ℕ) → sum_sides f ts + line (flip f) ≡ sum_sides (flip f) ts + line f
  pub once : (x y : ℕ) → uses x y ts + line (hit y x) ≤ 1
  pub within : (x y : ℕ) → 1 ≤ uses x y ts + line (hit y x) → (low ≤ x) × (x < top)

module _ {low top : ℕ} {line : (ℕ → ℕ → ℕ) → ℕ} {ts : List Triangle} (d : Fills low top line ts) (x y : ℕ) where
  pub fills_turned : uses x y ts + line (hit y x) ≡ uses y x ts + line (hit x y)
  fills_turned = rw hit_flip at (d.even (hit x y))

  -- both ends of a side lie within
  pub fills_in : 1 ≤ uses x y ts + line (hit y x) → (low ≤ min x y) × (max x y < top)
  fills_in h = omega (arith, d.within x y h, d.within y x (omega (arith, fills_turned)))
