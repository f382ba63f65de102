-- A level in whole parts of 1 / 65536, rounded up. Assumes nothing.
use Rattle.std.specs.Prelude.{ℕ, ◌+◌, ◌-◌, ◌*◌, ◌/◌, ◌≤◌, false, negsuc, T, Float}
use Rattle.std.specs.Float.{fin}
use Rattle.std.specs.Float.Ieee.{le}
use Rattle.std.specs.Float.Ieee.Positive.{num, den}

-- a / b, rounded up
abbrev pub ceil : ℕ → ℕ → ℕ
ceil a b = (a + (b - 1)) / b

-- L of a clamped level x: x * 65536 rounded up, where x is the fraction num x / den x
unfoldable pub scaled_level : Float → ℕ
scaled_level x = ceil (num x * 65536) (den x)

-- the number k / 65536
abbrev pub of_parts : ℕ → Float
of_parts k = fin false k (negsuc 15)

-- L is the least whole number not below x * 65536
pub record LeastParts (x : Float) (L : ℕ) : Type 0 where
  pub enough : T (le x (of_parts L))
  pub least : (k : ℕ) → T (le x (of_parts k)) → L ≤ k

-- L can come from a level from 1 to 64
pub record ScaledInRange (L : ℕ) : Type 0 where
  pub least : 65536 ≤ L
  pub most : L ≤ 4194304
