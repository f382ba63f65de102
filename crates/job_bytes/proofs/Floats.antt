-- The bit pattern of an f32, and the f32 of a bit pattern. Assumes nothing.
use mathlib.Core.Path.{◌≡◌, refl}
use mathlib.Core.Bool.{true}
use lib.Ieee.{Float, nan, inf, fin, binary32, is_nan, fits, of_bits}
use lib.Ieee.Bits.{of_bits-to_bits}
use Rattle.job_bytes.specs.Patterns.{level_pattern}

nan_back : of_bits binary32 0x7fc0_0000 ≡ nan
unfolding of_bits
nan_back = refl

-- the f32 of a level's bit pattern is the level
pub pattern_back : (x : Float) → fits binary32 x ≡ true → of_bits binary32 (level_pattern x) ≡ x
unfolding is_nan
pattern_back nan h = nan_back
pattern_back (inf s) h = of_bits-to_bits binary32 (inf s) (rw h tt)
pattern_back (fin s m e) h = of_bits-to_bits binary32 (fin s m e) (rw h tt)
