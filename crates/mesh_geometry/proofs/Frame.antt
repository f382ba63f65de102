-- The orientation of a triangle in the frame of an edge, by places along the edge and units inside. Assumes nothing.
use Prim.Native.Nat.{ℕ, ◌+◌, ◌-◌, ◌*◌, ◌<◌}
use mathlib.Core.Path.{◌≡◌, ap}
use native.Mathlib.Omega.{arith}
use native.Mathlib.Nat.{mul-lt-mul_of_pos_right}
use Rattle.mesh_geometry.specs.declared.Point.{Point}
use Rattle.mesh_geometry.proofs.Signed.{loop}

-- p, q, r have the positive orientation
abbrev pub Left : Point → Point → Point → Type 0
Left p q r = loop p r q < loop p q r

-- a frame: the point at place x, d units inside, where x and d fit. A triangle has the orientation of its places and units
pub record Frame (Fits : ℕ → ℕ → Type 0) (spot : ℕ → ℕ → Point) : Type 0 where
  pub turns : (x d y e z f : ℕ) → Fits x d → Fits y e → Fits z f
      → y * d + z * e + x * f < x * e + y * f + z * d → Left (spot x d) (spot y e) (spot z f)

-- an equation times two numbers, as omega does not multiply
pub times : {a b : ℕ} (m n : ℕ) → a ≡ b → (a * m ≡ b * m) × (a * n ≡ b * n)
times m n h = (ap (λ x. x * m) h, ap (λ x. x * n) h)

-- the rearrangement inequality: pairing the larger numbers gives the larger sum
pub rise : (x y d e : ℕ) → x < y → d < e → y * d + x * e < x * d + y * e
rise x y d e h k =
    let l : e ≡ d + (e - d) = omega arith in
    rw l (below (e - d) (mul-lt-mul_of_pos_right h (omega arith)))
  where
    below : (n : ℕ) → x * n < y * n → y * d + x * (d + n) < x * d + y * (d + n)
    below n m = omega arith
