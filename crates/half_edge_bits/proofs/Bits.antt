-- The bits of a number, and of a number with one more bit set. Assumes nothing.
use Prim.Native.Nat.{ℕ, zero, suc, ◌+◌, ◌-◌, ◌*◌, ◌/◌, ◌%◌, ◌^◌, ◌<◌, max}
use mathlib.Core.Path.{◌≡◌, refl, ap, ◌∙◌}
use mathlib.Core.Bool.{false, ◌||◌}
use native.Mathlib.Omega.{arith}
use native.Mathlib.Decide.{dec_le}
use native.Mathlib.Nat.{div-eq_of_lt, div_self, pow-suc, mul-mod_left, one-mul}
use lib.Dec.{eqb}
use lib.Bits.{bit_or, or_step, or_shr}
use lib.Pow.{pow_pos, pow-lt, pow-add, shl-shr, shl_exact}
use borrow.Author.Tests.{eq-eqb, ne_eqb}
use Rattle.half_edge_bits.specs.Rows.{bit}

-- the lowest bit of a bitwise or
most : (p q : ℕ) → p < 2 → q < 2 → eqb (max p q) 1 ≡ (eqb p 1 || eqb q 1)
most zero zero l k = refl
most zero (suc zero) l k = refl
most (suc zero) zero l k = refl
most (suc zero) (suc zero) l k = refl
most zero (suc (suc q)) l k = absurd (omega arith)
most (suc zero) (suc (suc q)) l k = absurd (omega arith)
most (suc (suc p)) q l k = absurd (omega arith)

max_small : (p q : ℕ) → p < 2 → q < 2 → max p q < 2
max_small zero zero l k = omega arith
max_small zero (suc zero) l k = omega arith
max_small (suc zero) zero l k = omega arith
max_small (suc zero) (suc zero) l k = omega arith
max_small zero (suc (suc q)) l k = absurd (omega arith)
max_small (suc zero) (suc (suc q)) l k = absurd (omega arith)
max_small (suc (suc p)) q l k = absurd (omega arith)

or_low : (a b : ℕ) → bit_or a b % 2 ≡ max (a % 2) (b % 2)
or_low a b = let s = or_step a b in let l = max_small (a % 2) (b % 2) (omega arith) (omega arith) in omega arith

or_bit : (a b j : ℕ) → bit (bit_or a b) j ≡ (bit a j || bit b j)
unfolding bit
or_bit a b j =
    ap (λ n. eqb (n % 2) 1) (or_shr a b j) ∙ ap (λ n. eqb n 1) (or_low (a / 2 ^ j) (b / 2 ^ j))
    ∙ most (a / 2 ^ j % 2) (b / 2 ^ j % 2) (omega arith) (omega arith)

-- the bits of a power of two
power_below : (k j : ℕ) → k < j → 2 ^ k / 2 ^ j % 2 ≡ 0
power_below k j l = ap (λ n. n % 2) (div-eq_of_lt (pow-lt l))

power_same : (j : ℕ) → 2 ^ j / 2 ^ j % 2 ≡ 1
power_same j = ap (λ n. n % 2) (div_self (pow_pos j))

power_above : (k j : ℕ) → j < k → 2 ^ k / 2 ^ j % 2 ≡ 0
power_above k j l =
    let d = k - j - 1 in
    let e : k ≡ suc d + j = omega arith in
    let p : 2 ^ k ≡ 2 ^ suc d * 2 ^ j = ap (λ n. 2 ^ n) e ∙ pow-add 2 (suc d) j in
    ap (λ n. n / 2 ^ j % 2) p ∙ ap (λ n. n % 2) (shl-shr (2 ^ suc d) j) ∙ ap (λ n. n % 2) (pow-suc 2 d) ∙ mul-mod_left (2 ^ d) 2

power_bit : (k j : ℕ) → bit (2 ^ k) j ≡ eqb k j
unfolding bit
power_bit k j = elim (dec_le (suc k) j) [
  | yes p ↦ rw (power_below k j p, ne_eqb k j (λ e. omega arith))
  | no p ↦ elim (dec_le (suc j) k) [
    | yes q ↦ rw (power_above k j q, ne_eqb k j (λ e. omega arith))
    | no q ↦ (let e : k ≡ j = omega arith in rw (e, power_same j, eq-eqb j j refl))
  ]
]

-- setting bit k keeps the other bits
pub bit_with : (n k j : ℕ) → bit (bit_or n (2 ^ k)) j ≡ (bit n j || eqb k j)
bit_with n k j = or_bit n (2 ^ k) j ∙ ap (λ b. bit n j || b) (power_bit k j)

pub bit_zero : (j : ℕ) → bit 0 j ≡ false
unfolding bit
bit_zero j = rw (div-eq_of_lt (pow_pos j))

-- a shifted 1 fits into 64 bits
pub power_fits : (k : ℕ) → k < 64 → (1 * 2 ^ k) % 2 ^ 64 ≡ 2 ^ k
power_fits k l = shl_exact {a = 1} 1 k 64 (omega arith) (omega arith) ∙ one-mul (2 ^ k)
