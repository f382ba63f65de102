-- The order of floats: if neither is a NaN, x ≤ y holds exactly if y < x fails. Assumes nothing.
use mathlib.Core.Path.{◌≡◌, refl, sym}
use mathlib.Core.Bool.{Bool, true, false, not, ◌||◌, ◌&&◌, and-false}
use Prim.Native.Nat.{ℕ, zero, suc, ◌+◌, ◌*◌, ◌<◌}
use native.Mathlib.Decide.{dec_le}
use native.Mathlib.Omega.{arith}
use lib.Dec.{T, ltb, eqb}
use borrow.Author.Tests.{lt-ltb, le-ltb, eq-eqb, ne_eqb}
use lib.Ieee.{Float, nan, inf, fin, up, down, below, level, lt, le, eq, is_nan}

-- two numbers with the same sign and the sizes a and b; e says whether the sizes are equal
like_signs : (a b : ℕ) (e : Bool) → (a ≡ b → e ≡ true) → (b < a → e ≡ false) → not (ltb b a) ≡ (ltb a b || (e && true))
like_signs a b e same differ = elim (dec_le a b) [
  | no h ↦ rw (lt-ltb b a (omega arith), le-ltb a b (omega arith), differ (omega arith))
  | yes h ↦ elim (dec_le b a) [
    | no k ↦ rw (le-ltb b a h, lt-ltb a b (omega arith))
    | yes k ↦ rw (le-ltb b a h, le-ltb a b k, same (omega arith))
  ]
]

-- two numbers of the sizes a and b; only the first is negative, or only the second
negative_first : (a b : ℕ) → true ≡ (ltb 0 (a + b) || (eqb a b && eqb a 0))
negative_first zero zero = refl
negative_first zero (suc b) = rw (lt-ltb 0 (0 + suc b) (omega arith))
negative_first (suc a) b = rw (lt-ltb 0 (suc a + b) (omega arith))

negative_second : (a b : ℕ) → not (ltb 0 (b + a)) ≡ (eqb a b && eqb a 0)
negative_second zero zero = refl
negative_second zero (suc b) = rw (lt-ltb 0 (suc b + 0) (omega arith), ne_eqb 0 (suc b) (λ e. omega arith))
negative_second (suc a) b = rw (lt-ltb 0 (b + suc a) (omega arith), ne_eqb (suc a) 0 (λ e. omega arith), and-false)

signed : (s t : Bool) (a b : ℕ) → not (below t b s a) ≡ (below s a t b || level s a t b)
signed false false a b = like_signs a b (eqb a b) (eq-eqb a b) (λ h. ne_eqb a b (λ e. omega arith))
signed true true a b = like_signs b a (eqb a b) (λ e. eq-eqb a b (sym e)) (λ h. ne_eqb a b (λ e. omega arith))
signed true false a b = negative_first a b
signed false true a b = negative_second a b

-- for any two floats that are not NaN
pub not_below : (x y : Float) → T (not (is_nan x)) → T (not (is_nan y)) → not (lt y x) ≡ le x y
unfolding lt le eq is_nan
not_below (inf true) (inf true) p q = refl
not_below (inf true) (inf false) p q = refl
not_below (inf false) (inf true) p q = refl
not_below (inf false) (inf false) p q = refl
not_below (inf true) (fin t n d) p q = refl
not_below (inf false) (fin t n d) p q = refl
not_below (fin s m e) (inf true) p q = refl
not_below (fin s m e) (inf false) p q = refl
not_below (fin s m e) (fin t n d) p q = signed s t (m * up e * down d) (n * up d * down e)
not_below nan y p q = elim p [ ]
not_below (inf false) nan p q = elim q [ ]
not_below (inf true) nan p q = elim q [ ]
not_below (fin s m e) nan p q = elim q [ ]

-- ---- what follows if a comparison holds
or_left : (a b : Bool) → T a → T (a || b)
or_left true b t = tt
or_left false b t = elim t [ ]

pub lt_le : (x y : Float) → T (lt x y) → T (le x y)
unfolding le
lt_le x y h = or_left (lt x y) (eq x y) h

-- neither side is a NaN
pub numbers : (x y : Float) → T (le x y) → T (not (is_nan x)) × T (not (is_nan y))
unfolding le is_nan
numbers (inf s) (inf t) h = (tt, tt)
numbers (inf s) (fin t n d) h = (tt, tt)
numbers (fin s m e) (inf t) h = (tt, tt)
numbers (fin s m e) (fin t n d) h = (tt, tt)
numbers nan y h = elim h [ ]
numbers (inf s) nan h = elim h [ ]
numbers (fin s m e) nan h = elim h [ ]

-- ---- comparing a float with itself
size_itself : (s : Bool) (a : ℕ) → below s a s a ≡ false
size_itself false a = le-ltb a a (omega arith)
size_itself true a = le-ltb a a (omega arith)

lt_itself : (x : Float) → lt x x ≡ false
unfolding lt
lt_itself nan = refl
lt_itself (inf true) = refl
lt_itself (inf false) = refl
lt_itself (fin s m e) = size_itself s (m * up e * down e)

pub le_itself : (x : Float) → T (not (is_nan x)) → T (le x x)
le_itself x p = rw (← not_below x x p p, lt_itself x) tt
