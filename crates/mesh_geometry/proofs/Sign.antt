-- Signs of areas as comparisons of natural numbers. Assumes nothing.
use Prim.Native.Nat.{ℕ, zero, suc, ◌-◌, ◌<◌}
use mathlib.Core.Path.{◌≡◌}
use mathlib.Core.Bool.{Bool, true, false}
use native.Mathlib.Omega.{arith}
use lib.IntN.{ℤ, pos, neg_ℤ}
use Rattle.mesh_geometry.specs.declared.Point.{Point}
use Rattle.mesh_geometry.specs.Cover.{Face, Side, twice_area, HasSign}
use Rattle.mesh_geometry.proofs.Signed.{Is, is_above, is_below, is_area, loop}
use Rattle.mesh_geometry.proofs.Frame.{Left}
use Rattle.mesh_geometry.specs.Held.{Spot, corner, area_to, Holds, Between, OnSide}

-- the first is larger, or, for the negative orientation, the second
abbrev Ahead : Bool → ℕ → ℕ → Type 0
Ahead true a b = b < a
Ahead false a b = a < b

sign_ahead : (b : Bool) (z : ℤ) (x y : ℕ) → Is z x y → HasSign b z → Ahead b x y
sign_ahead true z x y h s = go s.size s.above (rw s.is at h)
  where
    go : (n : ℕ) → 0 < n → Is (pos n) x y → y < x
    go n l e = omega arith
sign_ahead false z x y h s = go s.size s.above (rw s.is at h)
  where
    go : (n : ℕ) → 0 < n → Is (neg_ℤ (pos n)) x y → x < y
    go zero l e = absurd (omega arith)
    go (suc n) l e = omega arith

ahead_sign : (b : Bool) (z : ℤ) (x y : ℕ) → Is z x y → Ahead b x y → HasSign b z
ahead_sign true z x y h l = record { size = x - y; above = omega arith; is = is_above z x y (x - y) h (omega arith) }
ahead_sign false z x y h l = record { size = y - x; above = omega arith; is = is_below z x y (y - x) h (omega arith) }

-- s lies on the left of each side of P, Q, R
pub record Holding (p q r s : Point) : Type 0 where
  pub pq : Left p q s
  pub qr : Left q r s
  pub rp : Left r p s

-- the triangle with its corners in positive orientation
abbrev pub second : Bool → Face → Point
second true t = t.q
second false t = t.r

abbrev pub third : Bool → Face → Point
third true t = t.r
third false t = t.q

module _ (b : Bool) (s : Spot) (p q : Point) where
  to_sign : Ahead b (loop p q (corner s)) (loop p (corner s) q) → HasSign b (area_to p q s)
  to_sign = ahead_sign b (area_to p q s) _ _ (is_area (record { p = p; q = q; r = corner s }))

  of_sign : HasSign b (area_to p q s) → Ahead b (loop p q (corner s)) (loop p (corner s) q)
  of_sign = sign_ahead b (area_to p q s) _ _ (is_area (record { p = p; q = q; r = corner s }))

pub holds_left : (b : Bool) (t : Face) (s : Spot) → Holds b t s → Holding t.p (second b t) (third b t) (corner s)
holds_left true t s h = omega (arith, of_sign true s _ _ h.pq, of_sign true s _ _ h.qr, of_sign true s _ _ h.rp)
holds_left false t s h = omega (arith, of_sign false s _ _ h.pq, of_sign false s _ _ h.qr, of_sign false s _ _ h.rp)

pub left_holds : (b : Bool) (t : Face) (s : Spot) → Holding t.p (second b t) (third b t) (corner s) → Holds b t s
left_holds true t s h =
    record { pq = to_sign true s _ _ (omega arith); qr = to_sign true s _ _ (omega arith); rp = to_sign true s _ _ (omega arith) }
left_holds false t s h =
    record { pq = to_sign false s _ _ (omega arith); qr = to_sign false s _ _ (omega arith); rp = to_sign false s _ _ (omega arith) }

pub turned_left : (b : Bool) (t : Face) → HasSign b (twice_area t) → Left t.p (second b t) (third b t)
turned_left true t h = sign_ahead true _ _ _ (is_area t) h
turned_left false t h = sign_ahead false _ _ _ (is_area t) h

pub left_turned : (b : Bool) (t : Face) → Left t.p (second b t) (third b t) → HasSign b (twice_area t)
left_turned true t h = ahead_sign true _ _ _ (is_area t) h
left_turned false t h = ahead_sign false _ _ _ (is_area t) h

-- the spot lies on the segment, as equations of natural numbers
pub record Touches (p q s : Point) : Type 0 where
  pub straight : loop p q s ≡ loop p s q
  pub along_u : Between p.u q.u s.u
  pub along_v : Between p.v q.v s.v

pub touches_on : (e : Side) (s : Spot) → Touches e.start e.end (corner s) → OnSide e s
touches_on e s h = record {
  straight = is_above (area_to e.start e.end s) _ _ 0 (is_area (record { p = e.start; q = e.end; r = corner s })) (omega arith);
  along_u = h.along_u;
  along_v = h.along_v;
}

pub touches_back : {p q s : Point} → Touches p q s → Touches q p s
touches_back h = omega arith
