-- An `f32` from 1 to 64 is a whole number of units of 2 ^ -23, and an `f64` holds that number exactly. Assumes nothing.
use mathlib.Core.Path.{◌≡◌, refl, sym, ap, ◌∙◌}
use mathlib.Core.Bool.{false, ◌&&◌}
use Prim.Native.Nat.{ℕ, zero, suc, ◌+◌, ◌-◌, ◌*◌, ◌/◌, ◌%◌, ◌^◌, ◌≤◌, ◌<◌}
use native.Mathlib.Nat.{add-mul, mul-one, mul_assoc, mul-div_cancel, div-one, div-eq_of_lt-le, div-lt_iff_lt-mul, lt_of_not-le, not-le_of_lt, mul-le-mul_right, lt_of_lt_of_le}
use native.Mathlib.Omega.{arith}
use lib.Dec.{T, ltb, leb, eqb, ltb→lt, le→leb, lit<}
use lib.Pow.{pow-add, pow_pos, pow_mono}
use lib.IntN.{ℤ, pos, negsuc}
use lib.Ieee.{Float, fin, binary32, binary64, up, down, mul, of_int, fits, in_float, in_unsigned, to_unsigned}
use lib.Ieee.Fits.{and_l, and_r}
use lib.Ieee.Exact.{HasValue}
use lib.Ieee.Scale.{round_same}
use lib.Ieee.Back.{unsigned_back}
use lib.Ieee.Positive.{num, den, positive, den_pos, value→cross, le→cross, between, mul_at}
use Rattle.level.specs.Clamp.{From1To64}
use Rattle.level.specs.Scale.{ceil, scaled_level}

-- ---- the number of units is whole
whole : (m : ℕ) (e : ℤ) → m < 2 ^ 24 → down e ≤ m * up e → m * up e * 8388608 / down e * down e ≡ m * up e * 8388608
whole m (pos k) h l = mul-one (m * 2 ^ k * 8388608 / 1) ∙ div-one (m * 2 ^ k * 8388608)
whole m (negsuc k) h l =
    let small : suc k < 24 = lt_of_not-le (λ (g : 24 ≤ suc k). not-le_of_lt (lt_of_lt_of_le h (pow_mono g)) (omega (arith, mul-one m, l))) in
    let fit : 23 - suc k + suc k ≡ 23 = omega arith in
    let p : m * 1 * 8388608 ≡ m * 1 * 2 ^ (23 - suc k) * 2 ^ suc k =
    ap (λ (j : ℕ). m * 1 * 2 ^ j) (sym fit) ∙ ap (λ (z : ℕ). m * 1 * z) (pow-add 2 (23 - suc k) (suc k)) ∙ sym (mul_assoc (m * 1) (2 ^ (23 - suc k)) (2 ^ suc k)) in
    rw (p, mul-div_cancel (m * 1 * 2 ^ (23 - suc k)) {n = 2 ^ suc k} (pow_pos (suc k)))

-- an `f32` has at most 24 binary digits
narrow : (m : ℕ) (e : ℤ) → T (fits binary32 (fin false m e)) → m < 2 ^ 24
unfolding fits
narrow zero e t = lit< tt
narrow (suc m) e t =
    let a = eqb (suc m % 2) 1 in
    let b = ltb (suc m) (2 ^ 24) in
    let c = leb (down e) (2 ^ 149) in
    ltb→lt (suc m) (2 ^ 24) (and_r a b (and_l (a && b) c (and_l (a && b && c) (ltb (suc m * up e) (2 ^ 128 * down e)) t)))

-- N of x: how many units of 2 ^ -23 it has
abbrev pub fine_parts : Float → ℕ
fine_parts x = num x * 8388608 / den x

counts : (x : Float) → T (positive x) → T (fits binary32 x) → den x ≤ num x → HasValue x false (fine_parts x) 8388608
counts (fin false m e) p f h = (refl, sym (whole m e (narrow m e f) h))
counts lib.Ieee.nan p f h = elim p [ ]
counts (lib.Ieee.inf _) p f h = elim p [ ]
counts (fin mathlib.Core.Bool.true m e) p f h = elim p [ ]

-- ---- rounded up to units 128 times as large
coarser : (A D N : ℕ) → 0 < D → A * 8388608 ≡ N * D → (N + 127) / 128 ≡ ceil (A * 65536) D
coarser A D N d h =
    let q = (N + 127) / 128 in
    let lower : 128 * q ≤ N + 127 = omega arith in
    let upper : N ≤ 128 * q = omega arith in
    let l : 128 * q * D ≤ (N + 127) * D = mul-le-mul_right D lower in
    let u : N * D ≤ 128 * q * D = mul-le-mul_right D upper in
    let a : 128 * q * D ≡ 128 * (q * D) = mul_assoc 128 q D in
    let b : (N + 127) * D ≡ N * D + 127 * D = add-mul N 127 D in
    let s : (q + 1) * D ≡ q * D + 1 * D = add-mul q 1 D in
    sym (div-eq_of_lt-le D (omega arith) (omega arith))

-- ---- an `f32` from 1 to 64 has N units with no remainder, and its L is N / 128 rounded up
pub record FineParts (x : Float) (N : ℕ) : Type 0 where
  pub value : HasValue x false N 8388608
  pub rounded : ceil N 128 ≡ scaled_level x
  pub small : N ≤ 536870912

is_positive : (x : Float) → From1To64 x → T (positive x)
is_positive x w = between (fin false 1 (pos 0)) x (fin false 1 (pos 6)) tt tt w.least w.most

pub fine_parts_lem : (x : Float) → T (fits binary32 x) → From1To64 x → FineParts x (fine_parts x)
unfolding scaled_level
fine_parts_lem x f w =
    let one = fin false 1 (pos 0) in
    let top = fin false 1 (pos 6) in
    let p = is_positive x w in
    let low = le→cross one x tt p w.least in
    let high = le→cross x top p tt w.most in
    let N = fine_parts x in
    let v = counts x p f (omega (arith, low)) in
    record {
      value = v;
      rounded = coarser (num x) (den x) N (den_pos x) (value→cross x N 8388608 v);
      small = omega (arith, (div-lt_iff_lt-mul {k = den x} {x = num x * 8388608} {y = 536870913} (den_pos x)).1 (omega (arith, den_pos x, high)));
    }

-- ---- what `parts_of` needs of the `f64` y, which is x * 2 ^ 23: its value is N
pub record Counted (x y : Float) : Type 0 where
  pub is_whole : T (in_unsigned binary64 32 y)
  pub small : to_unsigned 32 y ≤ 536870912
  pub rounded : (to_unsigned 32 y + 127) / 128 ≡ scaled_level x

pub counted : (x : Float) → T (fits binary32 x) → From1To64 x → Counted x (mul binary64 x (fin false 1 (pos 23)))
unfolding of_int in_float
counted x f w =
    let N = fine_parts x in
    let n = fine_parts_lem x f w in
    let same : mul binary64 x (fin false 1 (pos 23)) ≡ of_int binary64 (pos N) =
    mul_at binary64 x (fin false 1 (pos 23)) N 8388608 8388608 1 (is_positive x w) tt (lit< tt) (lit< tt) n.value (refl, refl) ∙ round_same binary64 false
    (N * 8388608) 8388608 N 1 (lit< tt) (lit< tt) (mul-one (N * 8388608)) in
    let back = unsigned_back binary64 32 N (le→leb N (2 ^ 53) (omega arith)) (omega arith) in
    rw same (record {
      is_whole = back.0;
      small = omega arith;
      rounded = rw back.1 n.rounded;
    })
