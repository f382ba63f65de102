-- When the sides of a list of triangles close up, with a ring of vertices as the outline. Assumes nothing.
use Rattle.std.specs.Prelude.{ℕ, suc, ◌+◌, ◌≤◌, ◌<◌, ◌≡◌, ◌⊎◌, List, [], ◌∷◌}
use Rattle.strip.specs.declared.triangle.Triangle.{Triangle}
use Rattle.mesh_topology.specs.Sides.{flip, sum_sides, uses}
use Rattle.mesh_topology.specs.Ring.{ring_at, ring_sum}

-- every corner of every triangle is a number from `base` up to, not including, `top`
abbrev pub CornersWithin : ℕ → ℕ → List Triangle → Type 0
CornersWithin base top [] = Unit {0}
CornersWithin base top (t ∷ ts) =
    ((base ≤ t.a) × (t.a < top)) × ((base ≤ t.b) × (t.b < top)) × ((base ≤ t.c) × (t.c < top)) × CornersWithin base top ts

-- what a watertight mesh needs: every index is the number of a point; no directed side occurs twice; each segment of the
-- outline is a side once and its reverse is not; every other side has its reverse
pub record Closes (base top total : ℕ) (ts : List Triangle) : Type 0 where
  pub within : CornersWithin base top ts
  pub single : (x y : ℕ) → uses x y ts ≤ 1
  pub outline : (k : ℕ) → k < total → uses (ring_at base total k) (ring_at base total (suc k)) ts ≡ 1
  pub outside : (k : ℕ) → k < total → uses (ring_at base total (suc k)) (ring_at base total k) ts ≡ 0
  pub met : (x y : ℕ) → 1 ≤ uses x y ts
      → ((k : ℕ) × (k < total) × (x ≡ ring_at base total k) × (y ≡ ring_at base total (suc k))) ⊎ (uses y x ts ≡ 1)

-- Stokes' theorem for any weight of sides: the sides of all triangles outweigh their reverses by as much as the ring's segments outweigh theirs
abbrev pub Stokes : (base total : ℕ) (ts : List Triangle) → Type 0
Stokes base total ts = (f : ℕ → ℕ → ℕ) → sum_sides f ts + ring_sum (flip f) base total ≡ sum_sides (flip f) ts + ring_sum f base total
