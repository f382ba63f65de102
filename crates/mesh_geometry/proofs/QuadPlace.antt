-- The points of a quad patch in the frame of each edge. Assumes nothing.
use Prim.Native.Nat.{ℕ, zero, suc, ◌+◌, ◌-◌, ◌*◌, ◌≤◌, ◌<◌, min}
use mathlib.Core.Path.{◌≡◌, refl, ap}
use native.Mathlib.Omega.{arith}
use Rattle.mesh_geometry.specs.declared.Point.{Point}
use Rattle.mesh_geometry.specs.QuadPoints.{quad_place}
use Rattle.mesh_geometry.proofs.Signed.{cross}
use Rattle.mesh_geometry.proofs.Frame.{Frame, times}
use Rattle.mesh_geometry.proofs.Shape.{Shape, same_point}

-- a place on its edge, and a depth
abbrev pub QuadFits : ℕ → ℕ → Type 0
QuadFits x d = (x ≤ 65536) × (d ≤ 65536)

-- edges 0 and 2 reverse one coordinate, edge 3 both
module _ (x d y e z f : ℕ) (l : y * d + z * e + x * f < x * e + y * f + z * d) where
  module _ (a b c : ℕ) (h : a + x ≡ 65536) (i : b + y ≡ 65536) (j : c + z ≡ 65536) where
    along : d * c + f * b + e * a < d * b + e * c + f * a
    along = omega (arith, times e f h, times d f i, times d e j)

    module _ (a' b' c' : ℕ) (h' : a' + d ≡ 65536) (i' : b' + e ≡ 65536) (j' : c' + f ≡ 65536) where
      both : a * c' + c * b' + b * a' < a * b' + b * c' + c * a'
      both = omega (arith, along, times b c h', times a c i', times a b j')

  inward : (a b c : ℕ) → a + d ≡ 65536 → b + e ≡ 65536 → c + f ≡ 65536 → a * z + c * y + b * x < a * y + b * z + c * x
  inward a b c h i j = omega (arith, times y z h, times x z i, times x y j)

frame : (k : ℕ) → Frame QuadFits (quad_place k)
frame zero = record { turns = λ x d y e z f h i j l. along x d y e z f l _ _ _ (omega arith) (omega arith) (omega arith) }
frame (suc zero) = record { turns = λ x d y e z f h i j l. omega arith }
frame (suc (suc zero)) = record { turns = λ x d y e z f h i j l. inward x d y e z f l _ _ _ (omega arith) (omega arith) (omega arith) }
frame (suc (suc (suc zero))) = record {
  turns = λ x d y e z f h i j l.
      both x d y e z f l _ _ _ (omega arith) (omega arith) (omega arith) _ _ _ (omega arith) (omega arith) (omega arith);
}
frame (suc (suc (suc (suc k)))) = frame k

next : (k x d : ℕ) → x + d ≡ 65536 → quad_place k x d ≡ quad_place (suc k) d d
next zero x d h = same_point _ _ (omega arith) (omega arith) refl
next (suc zero) x d h = same_point _ _ (omega arith) (omega arith) refl
next (suc (suc zero)) x d h = same_point _ _ (omega arith) (omega arith) refl
next (suc (suc (suc zero))) x d h = same_point _ _ (omega arith) (omega arith) refl
next (suc (suc (suc (suc k)))) x d h = next k x d h

same : (k x y d : ℕ) → QuadFits x d → QuadFits y d → quad_place k x d ≡ quad_place k y d → x ≡ y
same zero x y d h l e = omega (arith, ap (λ (p : Point). p.v) e)
same (suc zero) x y d h l e = omega (arith, ap (λ (p : Point). p.u) e)
same (suc (suc zero)) x y d h l e = omega (arith, ap (λ (p : Point). p.v) e)
same (suc (suc (suc zero))) x y d h l e = omega (arith, ap (λ (p : Point). p.u) e)
same (suc (suc (suc (suc k)))) x y d h l e = same k x y d h l e

apart : (j k x y d : ℕ) → j < k → k < 4 → d ≤ x → x + d < 65536 → d ≤ y → y + d < 65536 → quad_place j x d ≡ quad_place k y d → ⊥
apart j zero x y d l m a b c f e = omega arith
apart zero (suc zero) x y d l m a b c f e = omega (arith, ap (λ (p : Point). p.v) e)
apart (suc j) (suc zero) x y d l m a b c f e = omega arith
apart zero (suc (suc zero)) x y d l m a b c f e = omega (arith, ap (λ (p : Point). p.u) e)
apart (suc zero) (suc (suc zero)) x y d l m a b c f e = omega (arith, ap (λ (p : Point). p.u) e)
apart (suc (suc j)) (suc (suc zero)) x y d l m a b c f e = omega arith
apart zero (suc (suc (suc zero))) x y d l m a b c f e = omega (arith, ap (λ (p : Point). p.u) e)
apart (suc zero) (suc (suc (suc zero))) x y d l m a b c f e = omega (arith, ap (λ (p : Point). p.v) e)
apart (suc (suc zero)) (suc (suc (suc zero))) x y d l m a b c f e = omega (arith, ap (λ (p : Point). p.v) e)
apart (suc (suc (suc j))) (suc (suc (suc zero))) x y d l m a b c f e = omega arith
apart j (suc (suc (suc (suc k)))) x y d l m a b c f e = omega arith

-- how far a point lies from the nearest edge
abbrev pub inset : Point → ℕ
inset p = min (min p.u p.v) (min (65536 - p.u) (65536 - p.v))

inset_rim : (k x : ℕ) → x ≤ 65536 → inset (quad_place k x 0) ≡ 0
inset_rim zero x h = omega arith
inset_rim (suc zero) x h = omega arith
inset_rim (suc (suc zero)) x h = omega arith
inset_rim (suc (suc (suc zero))) x h = omega arith
inset_rim (suc (suc (suc (suc k)))) x h = inset_rim k x h

-- how much a segment of edge k of the outline gains per unit
abbrev pub quad_gain : ℕ → ℕ
quad_gain zero = 0
quad_gain (suc zero) = 0
quad_gain (suc (suc zero)) = 65536
quad_gain (suc (suc (suc zero))) = 65536
quad_gain (suc (suc (suc (suc k)))) = quad_gain k

gains : (k x y : ℕ) → QuadFits x 0 → QuadFits y 0
    → cross (quad_place k x 0) (quad_place k y 0) + quad_gain k * x ≡ cross (quad_place k y 0) (quad_place k x 0) + quad_gain k * y
gains zero x y h l = omega arith
gains (suc zero) x y h l = omega arith
gains (suc (suc zero)) x y h l = omega arith
gains (suc (suc (suc zero))) x y h l = omega arith
gains (suc (suc (suc (suc k)))) x y h l = gains k x y h l

pub square : Shape 4 QuadFits quad_place inset quad_gain
square = record {
  some = omega arith;
  frame = frame;
  fits = λ x d h l. omega arith;
  next = next;
  round = λ d. refl;
  same = same;
  apart = apart;
  rim = inset_rim;
  gains = gains;
}
