-- Whether a directed side crosses the ray from a spot towards larger u upwards: 1 or 0. Assumes nothing.
use Prim.Native.Nat.{ℕ, ◌+◌, ◌*◌, ◌≤◌, ◌<◌, min, max}
use mathlib.Core.Path.{◌≡◌, refl}
use mathlib.Core.Logic.{◌⊎◌, inl, inr}
use mathlib.Core.Bool.{Bool, true, false, cond}
use native.Mathlib.Omega.{arith}
use native.Mathlib.Decide.{dec_le}
use lib.Dec.{leb, ltb}
use borrow.Author.Tests.{lt-ltb, le-ltb, le-leb, lt-leb}
use Rattle.mesh_geometry.specs.declared.Point.{Point}
use Rattle.mesh_geometry.proofs.Signed.{loop}
use Rattle.mesh_geometry.proofs.Frame.{Left, rise}
use Rattle.mesh_geometry.proofs.Sign.{Touches}

-- the side starts at or below the spot's v, ends above it, and has the spot on its left
unfoldable pub up : Point → Point → Point → ℕ
up s p q = cond (leb p.v s.v) (cond (ltb s.v q.v) (cond (ltb (loop p s q) (loop p q s)) 1 0) 0) 0

-- `rise`, where the numbers may be equal
pub rise_or_equal : (x y d e : ℕ) → x ≤ y → d ≤ e → y * d + x * e ≤ x * d + y * e
rise_or_equal x y d e h k =
    elim (dec_le y x) [
      | yes l ↦ let i : x ≡ y = omega arith in rw i (omega arith)
      | no l ↦ elim (dec_le e d) [
        | yes m ↦ let i : d ≡ e = omega arith in rw i (omega arith)
        | no m ↦ omega (arith, rise x y d e (omega arith) (omega arith))
      ]
    ]

either : (t : Bool) (n : ℕ) → cond t n n ≡ n
either true n = refl
either false n = refl

module _ (s p q : Point) where
  pub up_one : p.v ≤ s.v → s.v < q.v → Left p q s → up s p q ≡ 1
  unfolding up
  up_one h k l = rw (le-leb _ _ h, lt-ltb _ _ k, lt-ltb _ _ l)

  -- no crossing: the start is above, the end is not above, or the spot is not on the left
  pub up_above : s.v < p.v → up s p q ≡ 0
  unfolding up
  up_above h = rw (lt-leb _ _ h)

  pub up_below : q.v ≤ s.v → up s p q ≡ 0
  unfolding up
  up_below h = rw (le-ltb _ _ h, either (leb p.v s.v) 0)

  pub up_right : loop p q s ≤ loop p s q → up s p q ≡ 0
  unfolding up
  up_right h = rw (le-ltb _ _ h, either (ltb s.v q.v) 0, either (leb p.v s.v) 0)

  -- a spot beside a side that rises past it, and not on the side, is on its left or on its right
  module _ (h : p.v ≤ s.v) (k : s.v < q.v) where
    west : loop p q s ≤ loop p s q → min p.u q.u ≤ s.u
    west l = elim (dec_le (min p.u q.u) s.u) [
      | yes n ↦ n
      | no n ↦ absurd (omega (
        arith,
        rise s.u p.u s.v q.v (omega arith) k,
        rise_or_equal s.u q.u p.v s.v (omega arith) h,
      ))
    ]

    east : loop p s q ≤ loop p q s → s.u ≤ max p.u q.u
    east l = elim (dec_le s.u (max p.u q.u)) [
      | yes n ↦ n
      | no n ↦ absurd (omega (
        arith,
        rise p.u s.u s.v q.v (omega arith) k,
        rise_or_equal q.u s.u p.v s.v (omega arith) h,
      ))
    ]

    pub beside : (Touches p q s → ⊥) → Left p q s ⊎ Left q p s
    beside off = elim (dec_le (loop p q s) (loop p s q)) [
      | yes l ↦ elim (dec_le (loop p s q) (loop p q s)) [
        | yes m ↦ absurd (off (record { straight = omega arith; along_u = (west l, east m); along_v = omega arith }))
        | no m ↦ inr (omega arith)
      ]
      | no l ↦ inl (omega arith)
    ]
