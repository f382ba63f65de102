-- Laws of `digits`: it reads back as its number, it has only the bytes 48 to 57 and no leading zero, and its length. Assumes nothing.
use mathlib.Core.Path.{◌≡◌, refl, sym, ap, ◌∙◌}
use mathlib.Core.List.{List, [], ◌∷◌, ◌++◌, append_assoc}
use Prim.Native.Nat.{ℕ, zero, suc, ◌+◌, ◌-◌, ◌*◌, ◌/◌, ◌%◌, ◌^◌, ◌≤◌, ◌<◌}
use native.Mathlib.Nat.{mod-eq_of_lt, pow-suc}
use native.Mathlib.Decide.{dec_lt}
use native.Mathlib.Omega.{arith}
use borrow.Author.Tests.{lt-ltb, le-ltb}
use lib.ListN.{length, get_or, length-append, get_or-append}
use lib.Seq.{get_or_at}
use Rattle.decimal_text.specs.Digits.{digits_in, digits, read_from}

-- ---- the last digit, and those before it

in_one : (k x : ℕ) → x < 10 → digits_in (suc k) x ≡ (48 + x) ∷ []
unfolding digits_in
in_one k x h = rw (lt-ltb x 10 h, mod-eq_of_lt h)

in_more : (k x : ℕ) → 10 ≤ x → digits_in (suc k) x ≡ digits_in k (x / 10) ++ ((48 + x % 10) ∷ [])
unfolding digits_in
in_more k x h = rw (le-ltb x 10 h)

-- any sufficient number of places gives the same digits
in_same : (k m x : ℕ) → x < k → x < m → digits_in k x ≡ digits_in m x
in_same zero m x h l = absurd (omega arith)
in_same (suc k) zero x h l = absurd (omega arith)
in_same (suc k) (suc m) x h l = elim (dec_lt x 10) [
  | yes s ↦ in_one k x s ∙ sym (in_one m x s)
  | no s ↦ let t : 10 ≤ x = omega arith in rw (in_more k x t, in_more m x t, in_same k m (x / 10) (omega arith) (omega arith))
]

pub digits_one : (x : ℕ) → x < 10 → digits x ≡ (48 + x) ∷ []
unfolding digits
digits_one x h = in_one x x h

pub digits_more : (x : ℕ) → 10 ≤ x → digits x ≡ digits (x / 10) ++ ((48 + x % 10) ∷ [])
unfolding digits
digits_more x h = rw (in_more x x h, in_same x (suc (x / 10)) (x / 10) (omega arith) (omega arith))

pub digits_more_length : (x : ℕ) → 10 ≤ x → length (digits x) ≡ length (digits (x / 10)) + 1
digits_more_length x h = ap length (digits_more x h) ∙ length-append (digits (x / 10)) ((48 + x % 10) ∷ [])

-- ---- two digits at a time, as the code writes them

pub digits_two : (x : ℕ) → 10 ≤ x → x < 100 → digits x ≡ (48 + x / 10) ∷ (48 + x % 10) ∷ []
digits_two x h l = rw (digits_more x h, digits_one (x / 10) (omega arith))

pub digits_pair : (x : ℕ) → 100 ≤ x → digits x ≡ digits (x / 100) ++ ((48 + x % 100 / 10) ∷ (48 + x % 100 % 10) ∷ [])
digits_pair x h =
    let a : x / 10 / 10 ≡ x / 100 = omega arith in
    let b : x / 10 % 10 ≡ x % 100 / 10 = omega arith in
    let c : x % 10 ≡ x % 100 % 10 = omega arith in
    rw (digits_more x (omega arith), digits_more (x / 10) (omega arith), a, b, c, append_assoc)

pub digits_pair_length : (x : ℕ) → 100 ≤ x → length (digits x) ≡ length (digits (x / 100)) + 2
digits_pair_length x h = ap length (digits_pair x h) ∙ length-append (digits (x / 100)) ((48 + x % 100 / 10) ∷ (48 + x % 100 % 10) ∷ [])

-- ---- all digits

-- a property of single digits that one more digit preserves holds for all digits
digits_all : (P : ℕ → List ℕ → Type 0) → ((x : ℕ) → x < 10 → P x ((48 + x) ∷ []))
    → ((x : ℕ) (bs : List ℕ) → 10 ≤ x → P (x / 10) bs → P x (bs ++ ((48 + x % 10) ∷ []))) → (x : ℕ) → P x (digits x)
unfolding digits
digits_all P one more x = go (suc x) x (omega arith)
  where
    go : (k x : ℕ) → x < k → P x (digits_in k x)
    go zero x h = absurd (omega arith)
    go (suc k) x h = elim (dec_lt x 10) [
      | yes s ↦ rw (in_one k x s) (one x s)
      | no s ↦ let t : 10 ≤ x = omega arith in rw (in_more k x t) (more x (digits_in k (x / 10)) t (go k (x / 10) (omega arith)))
    ]

-- ---- reading the digits

read_append : (n : ℕ) (bs cs : List ℕ) → read_from n (bs ++ cs) ≡ read_from (read_from n bs) cs
unfolding read_from
read_append n [] cs = refl
read_append n (b ∷ bs) cs = read_append (10 * n + (b - 48)) bs cs

-- the digits read back as the number
pub digits_value : (x : ℕ) → read_from 0 (digits x) ≡ x
unfolding read_from
digits_value = digits_all (λ x bs. read_from 0 bs ≡ x) (λ x h. omega arith)
    (λ x bs h e. read_append 0 bs ((48 + x % 10) ∷ []) ∙ ap (λ (n : ℕ). 10 * n + (48 + x % 10 - 48)) e ∙ omega arith)

-- every byte is a digit
pub digits_bytes : (x i : ℕ) → i < length (digits x) → (48 ≤ get_or (digits x) i 0) × (get_or (digits x) i 0 ≤ 57)
digits_bytes = digits_all (λ x bs. (i : ℕ) → i < length bs → (48 ≤ get_or bs i 0) × (get_or bs i 0 ≤ 57))
    (λ x h i l. let z : i ≡ 0 = omega arith in rw z (omega arith))
    (λ x bs h all i l. elim (dec_lt i (length bs)) [
      | yes s ↦ rw (get_or-append bs ((48 + x % 10) ∷ []) 0 i s) (all i s)
      | no s ↦ let e : length bs ≡ i = omega (arith, length-append bs ((48 + x % 10) ∷ [])) in rw (get_or_at bs (48 + x % 10) [] 0 i e) (omega arith)
    ])

-- no number but 0 starts with a zero
pub digits_lead : (x : ℕ) → 1 ≤ x → 49 ≤ get_or (digits x) 0 0
digits_lead x = (digits_all (λ x bs. (1 ≤ length bs) × (1 ≤ x → 49 ≤ get_or bs 0 0)) (λ x h. omega arith)
    (λ x bs h l. (omega (arith, length-append bs ((48 + x % 10) ∷ [])), λ p. rw (get_or-append bs ((48 + x % 10) ∷ []) 0 0 l.0) (l.1 (omega arith)))) x).1

-- a number below 10 ^ k has at most k digits
pub digits_length : (x k : ℕ) → x < 10 ^ suc k → length (digits x) ≤ suc k
digits_length = digits_all (λ x bs. (k : ℕ) → x < 10 ^ suc k → length bs ≤ suc k) (λ x h k l. omega arith) more
  where
    more : (x : ℕ) (bs : List ℕ) → 10 ≤ x → ((k : ℕ) → x / 10 < 10 ^ suc k → length bs ≤ suc k) → (k : ℕ) → x < 10 ^ suc k
        → length (bs ++ ((48 + x % 10) ∷ [])) ≤ suc k
    more x bs h ih zero l = absurd (omega arith)
    more x bs h ih (suc k) l = rw length-append (omega (arith, ih k (omega (arith, pow-suc 10 (suc k)))))

pub digits_short : (x : ℕ) → x < 2 ^ 32 → length (digits x) ≤ 10
digits_short x h = digits_length x 9 (omega arith)

-- a number of 64 bits has at most twenty digits
pub digits_long : (x : ℕ) → x < 2 ^ 64 → length (digits x) ≤ 20
digits_long x h = digits_length x 19 (omega arith)
