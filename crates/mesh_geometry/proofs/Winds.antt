-- The outline of a triangle or quad patch winds once around each spot strictly inside. Assumes nothing.
use Prim.Native.Nat.{ℕ, zero, suc, ◌+◌, ◌-◌, ◌*◌, ◌≤◌, ◌<◌}
use mathlib.Core.Path.{◌≡◌, ap}
use mathlib.Core.Bool.{cond}
use mathlib.Core.List.{List}
use native.Mathlib.Omega.{arith}
use native.Mathlib.Decide.{dec_le}
use lib.Dec.{ltb}
use lib.ListN.{length}
use borrow.Author.Tests.{lt-ltb, le-ltb}
use Rattle.mesh_geometry.specs.declared.Point.{Point}
use Rattle.mesh_geometry.specs.Cover.{Side}
use Rattle.mesh_geometry.specs.Edge.{Run, GoodRun, ring}
use Rattle.mesh_geometry.specs.TrianglePoints.{triangle_place}
use Rattle.mesh_geometry.specs.QuadPoints.{quad_place}
use Rattle.mesh_geometry.proofs.Lists.{All, all_more, Distinct}
use Rattle.mesh_geometry.proofs.Edge.{good_span}
use Rattle.mesh_geometry.proofs.Ring.{ring_distinct}
use Rattle.mesh_geometry.proofs.Frame.{Left, rise}
use Rattle.mesh_geometry.proofs.TrianglePlace.{triangle as triangle-shape}
use Rattle.mesh_geometry.proofs.QuadPlace.{square as square-shape}
use Rattle.mesh_geometry.specs.Held.{Spot, corner}
use Rattle.mesh_geometry.specs.Domain.{Domain, triangle, square, edge_count, place_on, InsideDomain}
use Rattle.mesh_geometry.proofs.Members.{sum}
use Rattle.mesh_geometry.proofs.Walk.{walked}
use Rattle.mesh_geometry.proofs.Stokes.{back}
use Rattle.mesh_geometry.proofs.Crossing.{up, up_one, up_above, up_below, up_right}
use Rattle.mesh_geometry.proofs.Rim.{rim_gains}

-- the weight of a side: its upward crossing
abbrev pub crossing : Point → Side → ℕ
crossing s e = up s e.start e.end

-- the outline is crossed once more upwards than downwards
abbrev pub Winds : List Point → Point → Type 0
Winds outline s = sum (crossing s) (walked outline) ≡ suc (sum (back (crossing s)) (walked outline))

-- 1 if n is above the spot's v, else 0
passed : Point → ℕ → ℕ
passed s n = cond (ltb s.v n) 1 0

not_passed : (s : Point) (n : ℕ) → n ≤ s.v → passed s n ≡ 0
unfolding passed
not_passed s n h = rw (le-ltb _ _ h)

has_passed : (s : Point) (n : ℕ) → s.v < n → passed s n ≡ 1
unfolding passed
has_passed s n h = rw (lt-ltb _ _ h)

-- a segment with the spot on its left gains 1 if it rises past the spot, and 0 if it falls or is level
module _ (s p q : Point) (l : Left p q s) where
  rises : p.v ≤ q.v → up s p q + passed s p.v ≡ up s q p + passed s q.v
  rises h = elim (dec_le p.v s.v) [
    | yes a ↦ elim (dec_le q.v s.v) [
      | yes b ↦ omega (arith, not_passed s _ a, not_passed s _ b, up_below s p q b, up_below s q p a)
      | no b ↦
          let c : s.v < q.v = omega arith in
          omega (arith, not_passed s _ a, has_passed s _ c, up_one s p q a c l, up_above s q p c)
    ]
    | no a ↦
        let b : s.v < p.v = omega arith in
        let c : s.v < q.v = omega arith in
        omega (arith, has_passed s _ b, has_passed s _ c, up_above s p q b, up_above s q p c)
  ]

  falls : q.v ≤ p.v → up s p q + 0 ≡ up s q p + 0
  falls h = omega (arith, up_right s q p (omega arith), none)
    where
      none : up s p q ≡ 0
      none = elim (dec_le p.v s.v) [ yes a ↦ up_below s p q (omega arith) | no a ↦ up_above s p q (omega arith) ]

-- a spot inside an edge lies on its left; on the edge u, or v, or their sum is c
module _ (s : Point) (c : ℕ) where
  abbrev at : ℕ → ℕ → Point
  at a b = record { u = a; v = b; w = 0 }

  down_edge : (m n : ℕ) → c < s.u → n < m → Left (at c m) (at c n) s
  down_edge m n h k = omega (arith, rise c s.u n m h k)

  up_edge : (m n : ℕ) → s.u < c → m < n → Left (at c m) (at c n) s
  up_edge m n h k = omega (arith, rise s.u c m n h k)

  right_edge : (m n : ℕ) → c < s.v → m < n → Left (at m c) (at n c) s
  right_edge m n h k = omega (arith, rise m n c s.v k h)

  left_edge : (m n : ℕ) → s.v < c → n < m → Left (at m c) (at n c) s
  left_edge m n h k = omega (arith, rise n m s.v c k h)

  slant_edge : (m n t r : ℕ) → m + t ≡ c → n + r ≡ c → s.u + s.v < c → t < r → Left (at m t) (at n r) s
  slant_edge m n t r e d h k = omega (
    arith,
    rise (s.u + s.v) c t r h k,
    ap (λ x. x * s.v) e,
    ap (λ x. x * s.v) d,
    ap (λ x. x * r) e,
    ap (λ x. x * t) d,
  )

module _ (z : Spot) (inside : InsideDomain triangle z) where
  abbrev s : Point
  s = corner z

  -- the gain of edge k up to place x: only edge 2 rises
  triangle_gain : ℕ → ℕ → ℕ
  triangle_gain zero x = 0
  triangle_gain (suc zero) x = 0
  triangle_gain (suc (suc zero)) x = passed s (3 * x - 0)
  triangle_gain (suc (suc (suc k))) x = triangle_gain k x

  triangle_law : (k x y : ℕ) → x < y → y ≤ 65536
      → up s (triangle_place k x 0) (triangle_place k y 0) + triangle_gain k x ≡ up s (triangle_place k y 0) (triangle_place k x 0) + triangle_gain k y
  unfolding triangle_gain
  triangle_law zero x y h l = falls s (triangle_place 0 x 0) (triangle_place 0 y 0)
      (down_edge s 0 (196608 - (3 * x + 0)) (196608 - (3 * y + 0)) inside.0 (omega arith)) (omega arith)
  triangle_law (suc zero) x y h l = falls s (triangle_place 1 x 0) (triangle_place 1 y 0)
      (right_edge s 0 (3 * x - 0) (3 * y - 0) inside.1 (omega arith)) (omega arith)
  triangle_law (suc (suc zero)) x y h l = rises s (triangle_place 2 x 0) (triangle_place 2 y 0)
      (slant_edge s 196608 (196608 - (3 * x + 0)) (196608 - (3 * y + 0)) (3 * x - 0) (3 * y - 0) (omega arith) (omega arith) inside.2 (omega arith))
      (omega arith)
  triangle_law (suc (suc (suc k))) x y h l = triangle_law k x y h l

  triangle_winds : (es : List Run) → length es ≡ 3 → All GoodRun es → Winds (ring triangle_place 0 es 0) (corner z)
  unfolding triangle_gain
  triangle_winds es n good = omega (
    arith,
    rim_gains triangle-shape (crossing s) (back (crossing s)) triangle_gain triangle_law es n good,
    not_passed s 0 (omega arith),
    has_passed s 196608 (omega arith),
  )

module _ (z : Spot) (inside : InsideDomain square z) where
  abbrev c : Point
  c = corner z

  quad_gain_lem : ℕ → ℕ → ℕ
  quad_gain_lem zero x = 0
  quad_gain_lem (suc zero) x = 0
  quad_gain_lem (suc (suc zero)) x = passed c x
  quad_gain_lem (suc (suc (suc zero))) x = 0
  quad_gain_lem (suc (suc (suc (suc k)))) x = quad_gain_lem k x

  quad_law : (k x y : ℕ) → x < y → y ≤ 65536
      → up c (quad_place k x 0) (quad_place k y 0) + quad_gain_lem k x ≡ up c (quad_place k y 0) (quad_place k x 0) + quad_gain_lem k y
  unfolding quad_gain_lem
  quad_law zero x y h l =
      falls c (quad_place 0 x 0) (quad_place 0 y 0) (down_edge c 0 (65536 - x) (65536 - y) inside.0 (omega arith)) (omega arith)
  quad_law (suc zero) x y h l = falls c (quad_place 1 x 0) (quad_place 1 y 0) (right_edge c 0 x y inside.2 h) (omega arith)
  quad_law (suc (suc zero)) x y h l = rises c (quad_place 2 x 0) (quad_place 2 y 0) (up_edge c 65536 x y inside.1 h) (omega arith)
  quad_law (suc (suc (suc zero))) x y h l =
      falls c (quad_place 3 x 0) (quad_place 3 y 0) (left_edge c 65536 (65536 - x) (65536 - y) inside.3 (omega arith)) (omega arith)
  quad_law (suc (suc (suc (suc k)))) x y h l = quad_law k x y h l

  quad_winds : (es : List Run) → length es ≡ 4 → All GoodRun es → Winds (ring quad_place 0 es 0) (corner z)
  unfolding quad_gain_lem
  quad_winds es n good = omega (
    arith,
    rim_gains square-shape (crossing c) (back (crossing c)) quad_gain_lem quad_law es n good,
    not_passed c 0 (omega arith),
    has_passed c 65536 (omega arith),
  )

module _ (es : List Run) where
  pub outline_winds : (k : Domain) → length es ≡ edge_count k → All GoodRun es
      → (z : Spot) → InsideDomain k z → Winds (ring (place_on k) 0 es 0) (corner z)
  outline_winds triangle n good z i = triangle_winds z i es n good
  outline_winds square n good z i = quad_winds z i es n good

  pub outline_distinct : (k : Domain) → length es ≡ edge_count k → All GoodRun es → Distinct (ring (place_on k) 0 es 0)
  outline_distinct triangle n good = ring_distinct triangle-shape 0 es 0 (omega arith) (all_more (λ e g. good_span g) good)
  outline_distinct square n good = ring_distinct square-shape 0 es 0 (omega arith) (all_more (λ e g. good_span g) good)
