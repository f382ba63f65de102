-- The low bytes of a number. Assumes nothing.
use Prim.Native.Nat.{ℕ, zero, suc, ◌/◌}
use native.Mathlib.Omega.{arith}
use mathlib.Core.Path.{◌≡◌, refl, ap}
use lib.ListN.{length}
use Rattle.std.specs.Int.{w16, w32, to_le_bytes}
use Rattle.job_fields.specs.Bytes.{low_bytes}

-- `low_bytes k` has k bytes
pub low_length : (k x : ℕ) → length (low_bytes k x) ≡ k
unfolding low_bytes
low_length zero x = refl
low_length (suc k) x = ap suc (low_length k (x / 256))

-- the bytes of a number, as the library makes them
pub le_two : (x : ℕ) → to_le_bytes w16 x ≡ low_bytes 2 x
unfolding low_bytes
le_two x = refl

pub le_four : (x : ℕ) → to_le_bytes w32 x ≡ low_bytes 4 x
unfolding low_bytes
le_four x =
    let third : x / 65536 ≡ x / 256 / 256 = omega arith in
    let fourth : x / 16777216 ≡ x / 256 / 256 / 256 = omega arith in
    rw (third, fourth)
