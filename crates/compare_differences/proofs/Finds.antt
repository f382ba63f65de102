-- The search for a point: how it proceeds, and what it finds. Assumes nothing.
use Prim.Native.Nat.{ℕ, ◌+◌, ◌≤◌, ◌<◌}
use mathlib.Core.Path.{◌≡◌}
use mathlib.Core.Bool.{true, false}
use mathlib.Core.List.{List}
use native.Mathlib.Omega.{arith}
use native.Mathlib.Decide.{dec_le}
use Rattle.mesh_geometry.specs.declared.Point.{Point}
use Rattle.mesh_geometry.specs.Faces.{at}
use Rattle.check_searches.specs.Points.{same_point}
use Rattle.compare_differences.specs.Found.{Passed, PointFound}

-- no point from number `from` up to i equals p
pub record Open (ps : List Point) (from to : ℕ) (p : Point) (i : ℕ) : Type 0 where
  pub least : from ≤ i
  pub most : i ≤ to
  pub none : (k : ℕ) → from ≤ k → k < i → same_point (at ps k) p ≡ false

pub open_start : (ps : List Point) (from to : ℕ) (p : Point) → from ≤ to → Open ps from to p from
open_start ps from to p l = record { least = omega arith; most = l; none = λ k m n. absurd (omega arith) }

pub open_more : (ps : List Point) (from to : ℕ) (p : Point) (i : ℕ) → Open ps from to p i → i < to → same_point (at ps i) p ≡ false → Open ps from to p (i + 1)
open_more ps from to p i h l e = record { least = omega (arith, h.least); most = omega arith; none = last }
  where
    last : (k : ℕ) → from ≤ k → k < i + 1 → same_point (at ps k) p ≡ false
    last k m n = elim (dec_le i k) [ yes q ↦ (let d : k ≡ i = omega arith in rw d e) | no q ↦ h.none k m (omega arith) ]

-- the search ends at a point equal to p, or without one
pub open_found : (ps : List Point) (from to : ℕ) (p : Point) (i : ℕ) → Open ps from to p i → same_point (at ps i) p ≡ true → Passed ps from to p i
open_found ps from to p i h e = record { least = h.least; most = h.most; there = λ l. e; none = h.none }

pub open_done : (ps : List Point) (from to : ℕ) (p : Point) (i : ℕ) → Open ps from to p i → to ≤ i → Passed ps from to p i
open_done ps from to p i h l = record { least = h.least; most = h.most; there = λ m. absurd (omega arith); none = h.none }

-- a point equal to p is found
pub found_at : (ps : List Point) (count : ℕ) (p : Point) (r : ℕ) → r < count → same_point (at ps r) p ≡ true → PointFound ps count p r
found_at ps count p r l e = record { most = omega arith; there = λ m. e; none = λ d. absurd (omega arith) }

-- all points were tested
pub found_all : (ps : List Point) (count : ℕ) (p : Point) (r : ℕ) → Passed ps 0 count p r → PointFound ps count p r
found_all ps count p r h = record { most = h.most; there = h.there; none = λ e i l. h.none i (omega arith) (omega arith) }
