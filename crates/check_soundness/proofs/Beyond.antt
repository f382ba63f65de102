-- No point of a patch lies beyond a piece of its outline. Assumes nothing.
use Prim.Native.Nat.{ℕ, zero, suc, ◌+◌, ◌-◌, ◌*◌, ◌≤◌, ◌<◌}
use mathlib.Core.Path.{◌≡◌, refl, ap}
use mathlib.Core.List.{List, [], ◌∷◌}
use native.Mathlib.Omega.{arith}
use lib.ListN.{length}
use Rattle.mesh_geometry.specs.declared.Point.{Point}
use Rattle.mesh_geometry.specs.Cover.{Side}
use Rattle.mesh_geometry.specs.Edge.{Run, GoodRun, ring}
use Rattle.mesh_geometry.specs.TrianglePoints.{triangle_place}
use Rattle.mesh_geometry.specs.QuadPoints.{quad_place}
use Rattle.mesh_geometry.proofs.Lists.{All, none, more, all_more}
use Rattle.mesh_geometry.proofs.Signed.{loop}
use Rattle.mesh_geometry.proofs.Frame.{Left}
use Rattle.mesh_geometry.proofs.Shape.{Shape}
use Rattle.mesh_geometry.proofs.TrianglePlace.{triangle as triangle-shape}
use Rattle.mesh_geometry.proofs.QuadPlace.{square as square-shape}
use Rattle.mesh_geometry.specs.Domain.{Domain, triangle, square, edge_count, place_on}
use Rattle.mesh_geometry.proofs.Members.{sum, all_member, all_members}
use Rattle.mesh_geometry.proofs.Walk.{walked}
use Rattle.mesh_geometry.proofs.Crossing.{rise_or_equal}
use Rattle.mesh_geometry.proofs.Rim.{joining, rim_gains}
use Rattle.patch_mesh.specs.InPatch.{InPatch}

-- a sum is 0 exactly if all its terms are
nothing : {A : Type 0} (xs : List A) → sum (λ x. 0) xs ≡ 0
unfolding sum
nothing [] = refl
nothing (x ∷ xs) = omega (arith, nothing xs)

weightless : {A : Type 0} (f : A → ℕ) (xs : List A) → sum f xs ≡ 0 → All (λ x. f x ≡ 0) xs
unfolding sum
weightless f [] h = none
weightless f (x ∷ xs) h = more {x = x} (omega arith) (weightless f xs (omega arith))

-- if every segment along an edge has weight 0, every piece of the outline has
rim_weightless : {sides : ℕ} {Fits : ℕ → ℕ → Type 0} {place : ℕ → ℕ → ℕ → Point} {depth : Point → ℕ} {gain : ℕ → ℕ}
    → Shape sides Fits place depth gain → (f : Side → ℕ)
    → ((k x y : ℕ) → x < y → y ≤ 65536 → f (joining (place k x 0) (place k y 0)) ≡ 0)
    → (es : List Run) → length es ≡ sides → All GoodRun es → All (λ e. f e ≡ 0) (walked (ring place 0 es 0))
rim_weightless {place = place} shape f law es n good = weightless f (walked (ring place 0 es 0)) (omega (
  arith,
  rim_gains shape f (λ e. 0) (λ k x. 0) (λ k x y h l. omega (arith, law k x y h l)) es n good,
  nothing (walked (ring place 0 es 0)),
))

-- how far r lies to the right of a side: 0 if it is on the left or in line
beyond : Point → Side → ℕ
beyond r e = loop e.start r e.end - loop e.start e.end r

-- a point inside or on an edge does not lie to the right of it; on the edge u, or v, or their sum is c
module _ (r : Point) (c : ℕ) where
  abbrev at : ℕ → ℕ → Point
  at a b = record { u = a; v = b; w = 0 }

  down_edge : (m n : ℕ) → c ≤ r.u → n ≤ m → loop (at c m) r (at c n) ≤ loop (at c m) (at c n) r
  down_edge m n h k = omega (arith, rise_or_equal c r.u n m h k)

  up_edge : (m n : ℕ) → r.u ≤ c → m ≤ n → loop (at c m) r (at c n) ≤ loop (at c m) (at c n) r
  up_edge m n h k = omega (arith, rise_or_equal r.u c m n h k)

  right_edge : (m n : ℕ) → c ≤ r.v → m ≤ n → loop (at m c) r (at n c) ≤ loop (at m c) (at n c) r
  right_edge m n h k = omega (arith, rise_or_equal m n c r.v k h)

  left_edge : (m n : ℕ) → r.v ≤ c → n ≤ m → loop (at m c) r (at n c) ≤ loop (at m c) (at n c) r
  left_edge m n h k = omega (arith, rise_or_equal n m r.v c k h)

  slant_edge : (m n t s : ℕ) → m + t ≡ c → n + s ≡ c → r.u + r.v ≤ c → t ≤ s
      → loop (at m t) r (at n s) ≤ loop (at m t) (at n s) r
  slant_edge m n t s e d h k = omega (
    arith,
    rise_or_equal (r.u + r.v) c t s h k,
    ap (λ x. x * r.v) e,
    ap (λ x. x * r.v) d,
    ap (λ x. x * s) e,
    ap (λ x. x * t) d,
  )

triangle_edge_lem : (r : Point) → InPatch triangle r → (k x y : ℕ) → x < y → y ≤ 65536
    → beyond r (joining (triangle_place k x 0) (triangle_place k y 0)) ≡ 0
unfolding beyond
triangle_edge_lem r i zero x y h l = omega (arith, down_edge r 0 (196608 - (3 * x + 0)) (196608 - (3 * y + 0)) (omega arith) (omega arith))
triangle_edge_lem r i (suc zero) x y h l = omega (arith, right_edge r 0 (3 * x - 0) (3 * y - 0) (omega arith) (omega arith))
triangle_edge_lem r i (suc (suc zero)) x y h l = omega (
  arith,
  slant_edge r 196608 (196608 - (3 * x + 0)) (196608 - (3 * y + 0)) (3 * x - 0) (3 * y - 0) (omega arith) (omega arith) (omega arith) (omega arith),
)
triangle_edge_lem r i (suc (suc (suc k))) x y h l = triangle_edge_lem r i k x y h l

quad_edge_lem : (r : Point) → InPatch square r → (k x y : ℕ) → x < y → y ≤ 65536
    → beyond r (joining (quad_place k x 0) (quad_place k y 0)) ≡ 0
unfolding beyond
quad_edge_lem r i zero x y h l = omega (arith, down_edge r 0 (65536 - x) (65536 - y) (omega arith) (omega arith))
quad_edge_lem r i (suc zero) x y h l = omega (arith, right_edge r 0 x y (omega arith) (omega arith))
quad_edge_lem r i (suc (suc zero)) x y h l = omega (arith, up_edge r 65536 x y (omega arith) (omega arith))
quad_edge_lem r i (suc (suc (suc zero))) x y h l = omega (arith, left_edge r 65536 (65536 - x) (65536 - y) (omega arith) (omega arith))
quad_edge_lem r i (suc (suc (suc (suc k)))) x y h l = quad_edge_lem r i k x y h l

from_point : (k : Domain) (es : List Run) → length es ≡ edge_count k → All GoodRun es → (r : Point) → InPatch k r
    → All (λ e. Left e.end e.start r → ⊥) (walked (ring (place_on k) 0 es 0))
unfolding beyond
from_point triangle es n good r i = all_more (λ e h l. omega arith) (rim_weightless triangle-shape (beyond r) (triangle_edge_lem r i) es n good)
from_point square es n good r i = all_more (λ e h l. omega arith) (rim_weightless square-shape (beyond r) (quad_edge_lem r i) es n good)

pub none_beyond : (k : Domain) (es : List Run) → length es ≡ edge_count k → All GoodRun es
    → All (λ e. (r : Point) → InPatch k r → Left e.end e.start r → ⊥) (walked (ring (place_on k) 0 es 0))
none_beyond k es n good = all_members (walked (ring (place_on k) 0 es 0)) (λ e m r i. all_member (from_point k es n good r i) m)
