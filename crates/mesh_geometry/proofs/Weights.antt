-- The areas that a spot makes with a triangle's sides are weights of the corners: with these weights the mean of the corners is
-- the spot. Assumes nothing.
use Prim.Native.Nat.{ℕ, ◌+◌, ◌*◌, ◌≤◌, ◌<◌}
use mathlib.Core.Path.{◌≡◌, sym}
use native.Mathlib.Omega.{arith}
use native.Mathlib.Decide.{dec_le}
use Rattle.mesh_geometry.specs.declared.Point.{Point}
use Rattle.mesh_geometry.proofs.Signed.{loop}
use Rattle.mesh_geometry.proofs.Frame.{rise}
use Rattle.mesh_geometry.proofs.Crossing.{rise_or_equal}

-- v is p, q and r at the corners and s at the spot; the weights of r, p and q are a − a', b − b' and c − c'
pub record Mean (a a' b b' c c' p q r s : ℕ) : Type 0 where
  pub mean : a * r + b * p + c * q + (a' + b' + c') * s ≡ a' * r + b' * p + c' * q + (a + b + c) * s

pub mean_of : (p q r s : Point)
    → Mean (loop p q s) (loop p s q) (loop q r s) (loop q s r) (loop r p s) (loop r s p) p.v q.v r.v s.v
mean_of p q r s = omega arith

module _ {a a' b b' c c' p q r s : ℕ} (m : Mean a a' b b' c c' p q r s) where
  pub mean_turn : Mean b b' c c' a a' q r p s
  mean_turn = record { mean = omega (arith, m.mean) }

  pub mean_swap : Mean a' a b' b c' c p q r s
  mean_swap = record { mean = sym m.mean }

  -- two corners above the spot, one not: if the weights of those two are positive, so is the third
  pub one_below : p ≤ s → s < q → s < r → a' < a → c' < c → b' < b
  one_below h k l x z = elim (dec_le b b') [
    | yes y ↦ absurd (omega (arith, m.mean, rise a' a s r x l, rise c' c s q z k, rise_or_equal b b' p s y h))
    | no y ↦ omega arith
  ]

  -- one corner above the spot, two not: if the weights of those two are negative, the other is not positive
  pub two_below : p ≤ s → q ≤ s → s < r → b < b' → c < c' → a ≤ a'
  two_below h k l y z = elim (dec_le a a') [
    | yes x ↦ x
    | no x ↦ absurd (omega (
      arith,
      m.mean,
      rise a' a s r (omega arith) l,
      rise_or_equal b b' p s (omega arith) h,
      rise_or_equal c c' q s (omega arith) k,
    ))
  ]

  -- if the two weights are positive and the other is not, both corners are at the spot's height
  pub two_level : p ≤ s → q ≤ s → s < r → b' < b → c' < c → a ≤ a' → (p ≡ s) × (q ≡ s)
  two_level h k l y z x = (
    elim (dec_le s p) [
      | yes i ↦ omega arith
      | no i ↦ absurd (omega (
        arith,
        m.mean,
        rise b' b p s y (omega arith),
        rise_or_equal c' c q s (omega arith) k,
        rise_or_equal a a' s r x (omega arith),
      ))
    ],
    elim (dec_le s q) [
      | yes i ↦ omega arith
      | no i ↦ absurd (omega (
        arith,
        m.mean,
        rise c' c q s z (omega arith),
        rise_or_equal b' b p s (omega arith) h,
        rise_or_equal a a' s r x (omega arith),
      ))
    ],
  )

  -- positive weights: not all corners are above the spot, and if none are, each is at the spot's height
  pub all_above : s < p → s < q → s < r → a' < a → b' < b → c' < c → ⊥
  all_above h k l x y z = omega (arith, m.mean, rise a' a s r x l, rise b' b s p y h, rise c' c s q z k)

  pub all_level : p ≤ s → q ≤ s → r ≤ s → a' < a → b' < b → c' < c → p ≡ s
  all_level h k l x y z = elim (dec_le s p) [
    | yes i ↦ omega arith
    | no i ↦ absurd (omega (
      arith,
      m.mean,
      rise b' b p s y (omega arith),
      rise_or_equal c' c q s (omega arith) k,
      rise_or_equal a' a r s (omega arith) l,
    ))
  ]
