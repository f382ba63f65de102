use borrow.Author.Tests.{le-ltb, lt-ltb}
use mathlib.Core.Path.{◌≡◌, refl, sym}
use lib.Dec.{T}
use lib.Ieee.{Float, nan, binary32, div, of_bits, is_nan}
use lib.Ieee.Bits.{nan_bits_is, nan_bits_above}
use Rattle.level.proofs.level_of_bits.Goals as goal

only_nan : (x : Float) → T (is_nan x) → x ≡ nan
unfolding is_nan
only_nan nan h = refl
only_nan (lib.Ieee.inf _) h = elim h [ ]
only_nan (lib.Ieee.fin _ _ _) h = elim h [ ]

pub float_from_bits-result : goal.float_from_bits-result
float_from_bits-result c = rw (nan_bits_above, le-ltb _ _ c.if-bits-gt2139095040.false) tt

pub returns-then-bits-gt2139095040 : goal.returns-then-bits-gt2139095040
unfolding div of_bits
returns-then-bits-gt2139095040 c = sym (only_nan _ (rw (← nan_bits_is binary32 c.args.bits, nan_bits_above, lt-ltb _ _ c.if-bits-gt2139095040.true) tt))
