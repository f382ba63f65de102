-- A level discards its patch exactly if it is not above 0; a NaN does too. Assumes nothing.
use mathlib.Core.Path.{◌≡◌, refl, sym, ap, ◌∙◌}
use mathlib.Core.Bool.{true, false, not}
use Prim.Native.Nat.{ℕ, zero, suc, ◌*◌}
use native.Mathlib.Nat.{zero-mul, mul-one, mul-pos}
use native.Mathlib.Omega.{arith}
use lib.Dec.{ltb}
use borrow.Author.Tests.{lt-ltb}
use lib.IntN.{ℤ, pos}
use lib.Ieee.{Float, nan, inf, fin, lt, up, down, is_nan}
use lib.Ieee.Fits.{up_pos}
use lib.Ieee.Positive.{above}
use Rattle.level.specs.Discard.{discarded}
use Rattle.level.proofs.Order.{not_below}

-- the test in `discards`
pub not_above : (x : Float) → not (lt (fin false 0 (pos 0)) x) ≡ discarded x
unfolding lt is_nan
not_above nan = refl
not_above (inf s) = not_below (inf s) (fin false 0 (pos 0)) tt tt
not_above (fin s m e) = not_below (fin s m e) (fin false 0 (pos 0)) tt tt

-- infinity, and every finite number without a minus sign but 0, however small, is `above`
scaled_zero : (m : ℕ) (e : ℤ) → ltb (0 * down e) (m * up e * 1) ≡ ltb 0 m
scaled_zero zero e = rw (zero-mul (down e), zero-mul (up e))
scaled_zero (suc m) e =
    rw (zero-mul (down e), mul-one (suc m * up e), lt-ltb 0 (suc m * up e) (mul-pos (omega arith) (up_pos e)), lt-ltb 0 (suc m) (omega arith))

zero_below : (x : Float) → lt (fin false 0 (pos 0)) x ≡ above x
unfolding lt
zero_below nan = refl
zero_below (inf s) = refl
zero_below (fin true m e) = refl
zero_below (fin false m e) = scaled_zero m e

pub discarded_is : (x : Float) → discarded x ≡ not (above x)
discarded_is x = sym (not_above x) ∙ ap not (zero_below x)
