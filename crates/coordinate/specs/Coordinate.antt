-- A whole-number coordinate as an `f32`, and how near that float is to the exact quotient. Assumes nothing.
use Rattle.std.specs.Prelude.{ℕ, ◌+◌, ◌*◌, ◌/◌, ◌^◌, ◌≤◌, ◌<◌, false, List, get_or, pos, Float}
use Rattle.std.specs.Float.{binary32}
use Rattle.std.specs.Float.Ieee.{of_int, div}
use Rattle.std.specs.Float.Ieee.Exact.{HasValue}
use Rattle.std.specs.Float.Ieee.Positive.{num, den}

-- x / one in `f32`: both numbers are converted, then divided
unfoldable pub coordinate : ℕ → ℕ → Float
coordinate one x = div binary32 (of_int binary32 (pos x)) (of_int binary32 (pos one))

-- the value of a float in units of 2 ^ -41, rounded down
unfoldable pub float_units : Float → ℕ
float_units f = num f * 2 ^ 41 / den f

-- f is finite, not negative, and exactly x / 65536
abbrev pub Exact : ℕ → Float → Type 0
Exact x f = HasValue f false x 65536

-- f is a whole number N of units of 2 ^ -41, and 196608 * N differs from x * 2 ^ 41 by at most 196608 * 65536
pub record NearFloat (x : ℕ) (f : Float) : Type 0 where
  pub is : HasValue f false (float_units f) (2 ^ 41)
  pub least : x * 2 ^ 41 ≤ 196608 * float_units f + 196608 * 65536
  pub most : 196608 * float_units f ≤ x * 2 ^ 41 + 196608 * 65536

-- each of the first n words converts to `f32` exactly, as the conversion requires
pub record Castable (n : ℕ) (words : List ℕ) : Type 0 where
  pub each : (i : ℕ) → i < n → get_or words i 0 ≤ 16777216
