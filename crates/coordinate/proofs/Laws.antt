-- Laws of a coordinate as a float: exact for quads and isolines, near for triangles, and strictly increasing. Assumes nothing.
use mathlib.Core.Path.{◌≡◌, refl, sym, ap, subst, ◌∙◌}
use mathlib.Core.Bool.{false}
use mathlib.Core.Logic.{inl, inr}
use Prim.Native.Nat.{ℕ, ◌+◌, ◌-◌, ◌*◌, ◌/◌, ◌^◌, ◌≤◌, ◌<◌}
use native.Mathlib.Nat.{
  eq-or-lt_of_le,
  eq-zero-or-pos,
  mul-one,
  one-mul,
  mul_assoc,
  mul_left_comm,
  mul_right_comm,
  mul_comm,
  mul-pos,
  mul-div_cancel,
  mul-le-mul_right,
  mul-lt-mul_of_pos_right,
  eq_of_mul-eq-mul_right,
  le_trans,
  lt_of_lt_of_le,
  div-lt_iff_lt-mul,
  le-div_iff_mul-le,
}
use native.Mathlib.Omega.{arith}
use native.Mathlib.Decide.{dec_le}
use lib.IntN.{pos}
use lib.Dec.{lit≤}
use lib.Pow.{pow-add, pow_pos, pow_mono, shl_lt}
use lib.Ieee.{Float, nan, inf, fin, binary32, up, down, size, round, of_int, div}
use lib.Ieee.Digits.{size-le}
use lib.Ieee.Back.{round_whole}
use lib.Ieee.Exact.{HasValue, round_exact}
use lib.Ieee.Nearest.{closest, closest_same}
use lib.Ieee.Order.{drop}
use lib.Ieee.Positive.{num, den, den_pos, value→cross}
use lib.Ieee.Scale.{grid, round_val}
use Rattle.coordinate.specs.Coordinate.{coordinate, float_units, Exact, NearFloat}
use Rattle.coordinate.proofs.Round.{div_is, closest_near, size_gt}

-- a coordinate is x / one, rounded once
pub coordinate_is : (one x : ℕ) → 0 < one → one ≤ 16777216 → x ≤ 16777216 → coordinate one x ≡ round binary32 false x one
unfolding coordinate of_int
coordinate_is one x p o h =
    div_is binary32 (round binary32 false x 1) (round binary32 false one 1) x 1 one 1 (omega arith) (omega arith) p (round_whole binary32 false x h) (round_whole binary32 false one o)
    ∙ rw (mul-one x, one-mul one)

-- quads and isolines
pub exact : (x : ℕ) → x ≤ 65536 → Exact x (coordinate 65536 x)
exact x h =
    subst (Exact x) (sym (coordinate_is 65536 x (omega arith) (omega arith) (omega arith)))
    (round_exact binary32 false x 65536 x 133 (omega arith) (omega arith) (lt_of_lt_of_le (shl_lt 24 133 (omega arith)) (lit≤ tt)) (sym (mul_assoc x (2 ^ 133) 65536)))

-- the same for whole numbers
pub exact_cross : (x : ℕ) → x ≤ 65536 → num (coordinate 65536 x) * 65536 ≡ x * den (coordinate 65536 x)
exact_cross x h = value→cross (coordinate 65536 x) x 65536 (exact x h)

-- `float_units` of a float that is N units of 2 ^ -41 is N
pub parts_is : (f : Float) (N : ℕ) → HasValue f false N (2 ^ 41) → float_units f ≡ N
unfolding float_units
parts_is f N h = ap (λ (n : ℕ). n / den f) (value→cross f N (2 ^ 41) h) ∙ mul-div_cancel N (den_pos f)

-- N * 2 ^ 108 units of 2 ^ -149 are N units of 2 ^ -41
coarse : (f : Float) (N : ℕ) → HasValue f false (N * 2 ^ 108) (2 ^ 149) → HasValue f false N (2 ^ 41)
coarse nan N h = absurd h
coarse (inf s) N h = absurd h
coarse (fin s m e) N h = (
  h.0,
  eq_of_mul-eq-mul_right (2 ^ 108) (pow_pos 108) (m * up e * 2 ^ 41) (N * down e) (mul_assoc (m * up e) (2 ^ 41) (2 ^ 108) ∙ h.1 ∙ mul_right_comm N (2 ^ 108) (down e)),
)

near_of : (x N : ℕ) (f : Float) → HasValue f false N (2 ^ 41) → x * 2 ^ 41 ≤ 196608 * N + 196608 * 65536 → 196608 * N ≤ x * 2 ^ 41 + 196608 * 65536 → NearFloat x f
near_of x N f v l m =
    let e : float_units f ≡ N = parts_is f N v in
    record { is = rw e v; least = omega arith; most = omega arith }

-- between 0 and 1 rounding drops 108 to 125 binary digits of the units of 2 ^ -149
drop_least : (x : ℕ) → 0 < x → 108 ≤ drop 24 (x * 2 ^ 149) 196608
drop_least x p =
    let z : 131 < size (x * 2 ^ 149 / 196608) = size_gt _ 131 ((le-div_iff_mul-le (omega arith)).1 (le_trans (lit≤ tt) (mul-le-mul_right (2 ^ 149) p))) in
    omega (arith, z)

drop_most : (x : ℕ) → x < 196608 → drop 24 (x * 2 ^ 149) 196608 ≤ 125
drop_most x h =
    let z : size (x * 2 ^ 149 / 196608) ≤ 149 = size-le _ 149 ((div-lt_iff_lt-mul (omega arith)).1 (mul-lt-mul_of_pos_right h (pow_pos 149))) in
    omega (arith, z)

-- if k digits are dropped, the rounded number is x * 2 ^ 41 over 196608 * 2 ^ (k - 108), rounded
kept_is : (x k j : ℕ) → k ≡ j + 108 → closest (x * 2 ^ 149) (196608 * 2 ^ k) ≡ closest (x * 2 ^ 41) (196608 * 2 ^ j)
kept_is x k j e =
    closest_same (x * 2 ^ 149) (196608 * 2 ^ k) (x * 2 ^ 41) (196608 * 2 ^ j) (mul-pos (omega arith) (pow_pos k)) (mul-pos (omega arith) (pow_pos j))
    (rw (e, pow-add 2 j 108) (scale x (2 ^ 41) (2 ^ 108) 196608 (2 ^ j)))
  where
    scale : (x a s c P : ℕ) → x * (a * s) * (c * P) ≡ x * a * (c * (P * s))
    scale x a s c P = simp (mul_assoc, mul_comm, mul_left_comm)

-- K * 2 ^ j units are near, where K is that number
bounds : (x K P : ℕ) → P ≤ 131072 → (x * 2 ^ 41 * 2 ≤ K * (196608 * P) * 2 + 196608 * P) × (K * (196608 * P) * 2 ≤ x * 2 ^ 41 * 2 + 196608 * P)
    → (x * 2 ^ 41 ≤ 196608 * (K * P) + 196608 * 65536) × (196608 * (K * P) ≤ x * 2 ^ 41 + 196608 * 65536)
bounds x K P h b = omega arith

inner : (x : ℕ) → 0 < x → x < 196608 → NearFloat x (coordinate 196608 x)
inner x p h =
    let k = drop 24 (x * 2 ^ 149) 196608 in
    let j = k - 108 in
    let e : k ≡ j + 108 = omega (arith, drop_least x p) in
    let K = closest (x * 2 ^ 41) (196608 * 2 ^ j) in
    let N = K * 2 ^ j in
    let b = bounds x K (2 ^ j) (pow_mono {i = j} {j = 17} (omega (arith, drop_most x h))) (closest_near (x * 2 ^ 41) (196608 * 2 ^ j) (mul-pos (omega arith) (pow_pos j))) in
    let g : grid binary32 x 196608 ≡ N * 2 ^ 108 =
    ap (λ (q : ℕ). q * 2 ^ k) (kept_is x k j e) ∙ ap (λ (i : ℕ). K * 2 ^ i) e ∙ ap (λ (q : ℕ). K * q) (pow-add 2 j 108) ∙ sym (mul_assoc K (2 ^ j) (2 ^ 108)) in
    let u : N * 2 ^ 108 < 2 ^ 277 = lt_of_lt_of_le (shl_lt 42 108 (small x N h b.1)) (lit≤ tt) in
    let v : HasValue (round binary32 false x 196608) false (N * 2 ^ 108) (2 ^ 149) =
    subst (λ (q : ℕ). HasValue (round binary32 false x 196608) false q (2 ^ 149)) g (round_val binary32 x 196608 (subst (λ (q : ℕ). q < 2 ^ 277) (sym g) u)) in
    near_of x N (coordinate 196608 x) (subst (λ (f : Float). HasValue f false N (2 ^ 41))
    (sym (coordinate_is 196608 x (omega arith) (omega arith) (omega arith))) (coarse (round binary32 false x 196608) N v)) b.0 b.1
  where
    small : (x N : ℕ) → x < 196608 → 196608 * N ≤ x * 2 ^ 41 + 196608 * 65536 → N < 2 ^ 42
    small x N h m = omega arith

-- 0 and 196608 are exactly 0 and 1
pub zero_is : coordinate 196608 0 ≡ fin false 0 (pos 0)
unfolding coordinate of_int div
zero_is = refl

pub one_is : coordinate 196608 196608 ≡ fin false 1 (pos 0)
unfolding coordinate of_int div
one_is = refl

-- triangles
pub near : (x : ℕ) → x ≤ 196608 → NearFloat x (coordinate 196608 x)
near x h = elim (eq-or-lt_of_le h) [
  | inl e ↦ rw e (near_of 196608 (2 ^ 41) (coordinate 196608 196608) (rw one_is (refl, refl)) (omega arith) (omega arith))
  | inr l ↦ elim (eq-zero-or-pos x) [
    | inl e ↦ rw e (near_of 0 0 (coordinate 196608 0) (rw zero_is (refl, refl)) (omega arith) (omega arith))
    | inr p ↦ inner x p l
  ]
]

-- ---- greater coordinates are greater floats
pub triangle_rising : (x y : ℕ) → x < y → y ≤ 196608 → float_units (coordinate 196608 x) < float_units (coordinate 196608 y)
triangle_rising x y l h =
    let a = near x (omega arith) in
    let b = near y h in
    omega arith

-- x / 65536 is x * 2 ^ 25 units of 2 ^ -41
finer : (f : Float) (x : ℕ) → HasValue f false x 65536 → HasValue f false (x * 2 ^ 25) (2 ^ 41)
finer nan x h = absurd h
finer (inf s) x h = absurd h
finer (fin s m e) x h = (
  h.0,
  sym (mul_assoc (m * up e) 65536 (2 ^ 25)) ∙ ap (λ (n : ℕ). n * 2 ^ 25) h.1 ∙ mul_right_comm x (down e) (2 ^ 25),
)

quad_parts : (x : ℕ) → x ≤ 65536 → float_units (coordinate 65536 x) ≡ x * 2 ^ 25
quad_parts x h = parts_is (coordinate 65536 x) (x * 2 ^ 25) (finer (coordinate 65536 x) x (exact x h))

pub quad_rising : (x y : ℕ) → x < y → y ≤ 65536 → float_units (coordinate 65536 x) < float_units (coordinate 65536 y)
quad_rising x y l h = omega (arith, quad_parts x (omega arith), quad_parts y h)

-- so different coordinates of a patch have different floats
apart : (one : ℕ) → ((x y : ℕ) → x < y → y ≤ one → float_units (coordinate one x) < float_units (coordinate one y))
    → (x y : ℕ) → x ≤ one → y ≤ one → coordinate one x ≡ coordinate one y → x ≡ y
apart one rising x y h k e = elim (dec_le x y) [
  | yes l ↦ elim (dec_le y x) [ yes m ↦ omega arith | no m ↦ absurd (omega (arith, rising x y (omega arith) k, ap float_units e)) ]
  | no l ↦ absurd (omega (arith, rising y x (omega arith) h, ap float_units e))
]

pub triangle_apart : (x y : ℕ) → x ≤ 196608 → y ≤ 196608 → coordinate 196608 x ≡ coordinate 196608 y → x ≡ y
triangle_apart = apart 196608 triangle_rising

pub quad_apart : (x y : ℕ) → x ≤ 65536 → y ≤ 65536 → coordinate 65536 x ≡ coordinate 65536 y → x ≡ y
quad_apart = apart 65536 quad_rising
