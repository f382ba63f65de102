-- The shape of a patch: what rings require of the places along its edges. Assumes nothing.
use Prim.Native.Nat.{ℕ, suc, ◌+◌, ◌*◌, ◌≤◌, ◌<◌}
use mathlib.Core.Path.{◌≡◌}
use Rattle.mesh_geometry.specs.declared.Point.{Point}
use Rattle.mesh_geometry.proofs.Signed.{cross}
use Rattle.mesh_geometry.proofs.Frame.{Frame}

-- `place k x d` is the point at place x of edge k, d units inside
pub record Shape (sides : ℕ) (Fits : ℕ → ℕ → Type 0) (place : ℕ → ℕ → ℕ → Point) (depth : Point → ℕ) (gain : ℕ → ℕ) : Type 0 where
  pub some : 1 ≤ sides
  pub frame : (k : ℕ) → Frame Fits (place k)
  pub fits : (x d : ℕ) → d ≤ x → x + d ≤ 65536 → Fits x d
  -- the end of an edge is the start of the next, and the end of the last edge is the start of the first
  pub next : (k x d : ℕ) → x + d ≡ 65536 → place k x d ≡ place (suc k) d d
  pub round : (d : ℕ) → place sides d d ≡ place 0 d d
  -- different places of a ring are different points
  pub same : (k x y d : ℕ) → Fits x d → Fits y d → place k x d ≡ place k y d → x ≡ y
  pub apart : (j k x y d : ℕ) → j < k → k < sides → d ≤ x → x + d < 65536 → d ≤ y → y + d < 65536 → place j x d ≡ place k y d → ⊥
  -- the points of the outline have depth 0
  pub rim : (k x : ℕ) → x ≤ 65536 → depth (place k x 0) ≡ 0
  -- a segment of edge k of the outline outweighs its reverse by `gain k` per unit
  pub gains : (k x y : ℕ) → Fits x 0 → Fits y 0
      → cross (place k x 0) (place k y 0) + gain k * x ≡ cross (place k y 0) (place k x 0) + gain k * y

-- points with equal coordinates are equal
pub same_point : (p q : Point) → p.u ≡ q.u → p.v ≡ q.v → p.w ≡ q.w → p ≡ q
same_point p q a b c = λ i. record { u = a i; v = b i; w = c i }
