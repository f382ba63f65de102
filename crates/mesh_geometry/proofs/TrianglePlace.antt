-- The points of a triangle patch in the frame of each edge. Assumes nothing.
use Prim.Native.Nat.{ℕ, zero, suc, ◌+◌, ◌-◌, ◌*◌, ◌≤◌, ◌<◌, min}
use mathlib.Core.Path.{◌≡◌, refl, ap}
use native.Mathlib.Omega.{arith}
use Rattle.mesh_geometry.specs.declared.Point.{Point}
use Rattle.mesh_geometry.specs.TrianglePoints.{triangle_place, centre}
use Rattle.mesh_geometry.proofs.Signed.{cross}
use Rattle.mesh_geometry.proofs.Frame.{Left, times}
use Rattle.mesh_geometry.proofs.Shape.{Shape, same_point}

-- a place of the ring d units inside lies between the ring's corners
abbrev pub Fits : ℕ → ℕ → Type 0
Fits x d = (d ≤ x) × (x + d ≤ 65536)

-- from places to end coordinates t, where t + d ≡ 3x
ends : (x d y e z f t t' t'' : ℕ) → t + d ≡ 3 * x → t' + e ≡ 3 * y → t'' + f ≡ 3 * z
    → y * d + z * e + x * f < x * e + y * f + z * d → t' * d + t'' * e + t * f < t * e + t' * f + t'' * d
ends x d y e z f t t' t'' h h' h'' l = omega (arith, times e f h, times d f h', times d e h'')

-- on edge 1 the end coordinate is u and the opposite v; on 0 u is the opposite and v the start; on 2 u is the start and v the end
module _ (d e f t t' t'' : ℕ) (l : t' * d + t'' * e + t * f < t * e + t' * f + t'' * d) where
  on1 : t * (2 * f) + t'' * (2 * e) + t' * (2 * d) < t * (2 * e) + t' * (2 * f) + t'' * (2 * d)
  on1 = omega arith

  module _ (s s' s'' : ℕ) (h : s + t + 2 * d ≡ 196608) (h' : s' + t' + 2 * e ≡ 196608) (h'' : s'' + t'' + 2 * f ≡ 196608) where
    on0 : 2 * d * s'' + 2 * f * s' + 2 * e * s < 2 * d * s' + 2 * e * s'' + 2 * f * s
    on0 = omega (arith, times e f h, times d f h', times d e h'')

    on2 : s * t'' + s'' * t' + s' * t < s * t' + s' * t'' + s'' * t
    on2 = omega (arith, times t' t'' h, times t t'' h', times t t' h'')

place_turns : (x d y e z f : ℕ) → Fits x d → Fits y e → Fits z f
    → (3 * y - e) * d + (3 * z - f) * e + (3 * x - d) * f < (3 * x - d) * e + (3 * y - e) * f + (3 * z - f) * d
    → (k : ℕ) → Left (triangle_place k x d) (triangle_place k y e) (triangle_place k z f)
place_turns x d y e z f h h' h'' l zero = on0 d e f _ _ _ l _ _ _ (omega arith) (omega arith) (omega arith)
place_turns x d y e z f h h' h'' l (suc zero) = on1 d e f _ _ _ l
place_turns x d y e z f h h' h'' l (suc (suc zero)) = on2 d e f _ _ _ l _ _ _ (omega arith) (omega arith) (omega arith)
place_turns x d y e z f h h' h'' l (suc (suc (suc k))) = place_turns x d y e z f h h' h'' l k

next : (k x d : ℕ) → x + d ≡ 65536 → triangle_place k x d ≡ triangle_place (suc k) d d
next zero x d h = same_point _ _ (omega arith) (omega arith) (omega arith)
next (suc zero) x d h = same_point _ _ (omega arith) (omega arith) (omega arith)
next (suc (suc zero)) x d h = same_point _ _ (omega arith) (omega arith) (omega arith)
next (suc (suc (suc k))) x d h = next k x d h

same : (k x y d : ℕ) → Fits x d → Fits y d → triangle_place k x d ≡ triangle_place k y d → x ≡ y
same zero x y d h l e = omega (arith, ap (λ (p : Point). p.w) e)
same (suc zero) x y d h l e = omega (arith, ap (λ (p : Point). p.u) e)
same (suc (suc zero)) x y d h l e = omega (arith, ap (λ (p : Point). p.v) e)
same (suc (suc (suc k))) x y d h l e = same k x y d h l e

apart : (j k x y d : ℕ) → j < k → k < 3 → d ≤ x → x + d < 65536 → d ≤ y → y + d < 65536 → triangle_place j x d ≡ triangle_place k y d → ⊥
apart zero (suc zero) x y d l m a b c f e = omega (arith, ap (λ (p : Point). p.v) e)
apart zero (suc (suc zero)) x y d l m a b c f e = omega (arith, ap (λ (p : Point). p.u) e)
apart (suc zero) (suc (suc zero)) x y d l m a b c f e = omega (arith, ap (λ (p : Point). p.w) e)
apart j zero x y d l m a b c f e = omega arith
apart (suc j) (suc zero) x y d l m a b c f e = omega arith
apart (suc (suc j)) (suc (suc zero)) x y d l m a b c f e = omega arith
apart j (suc (suc (suc k))) x y d l m a b c f e = omega arith

-- the least coordinate of a point: twice the depth of its ring
abbrev pub least : Point → ℕ
least p = min p.u (min p.v p.w)

pub least_is : (k x d : ℕ) → Fits x d → least (triangle_place k x d) ≡ 2 * d
least_is zero x d h = omega arith
least_is (suc zero) x d h = omega arith
least_is (suc (suc zero)) x d h = omega arith
least_is (suc (suc (suc k))) x d h = least_is k x d h

-- how much a segment of edge k of the outline gains per unit
abbrev pub gain : ℕ → ℕ
gain zero = 0
gain (suc zero) = 0
gain (suc (suc zero)) = 589824
gain (suc (suc (suc k))) = gain k

gains : (k x y : ℕ) → Fits x 0 → Fits y 0
    → cross (triangle_place k x 0) (triangle_place k y 0) + gain k * x ≡ cross (triangle_place k y 0) (triangle_place k x 0) + gain k * y
gains zero x y h l = omega arith
gains (suc zero) x y h l = omega arith
gains (suc (suc zero)) x y h l =
    last (196608 - (3 * x + 0)) (196608 - (3 * y + 0)) (3 * x - 0) (3 * y - 0) (omega arith) (omega arith) (omega arith) (omega arith)
  where
    last : (s t a b : ℕ) → s + 3 * x ≡ 196608 → t + 3 * y ≡ 196608 → a ≡ 3 * x → b ≡ 3 * y → s * b + 589824 * x ≡ t * a + 589824 * y
    last s t a b h k l m = rw (l, m) (omega (arith, ap (λ n. n * y) h, ap (λ n. n * x) k))
gains (suc (suc (suc k))) x y h l = gains k x y h l

pub triangle : Shape 3 Fits triangle_place least gain
triangle = record {
  some = omega arith;
  frame = λ k. record {
    turns = λ x d y e z f h h' h'' l. place_turns x d y e z f h h' h'' (ends x d y e z f _ _ _ (omega arith) (omega arith) (omega arith) l) k;
  };
  fits = λ x d h l. (h, l);
  next = next;
  round = λ d. refl;
  same = same;
  apart = apart;
  rim = λ k x h. least_is k x 0 (omega arith);
  gains = gains;
}

-- the centre is a ring without segments
pub middle : (d : ℕ) → d + d ≡ 65536 → centre ≡ triangle_place 0 d d
middle d h = same_point _ _ (omega arith) (omega arith) (omega arith)
