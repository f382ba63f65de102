-- The first number that passes a test: how a search finds it, and what follows for its user. Assumes nothing.
use Prim.Native.Nat.{ℕ, zero, suc, ◌+◌, ◌≤◌, ◌<◌}
use mathlib.Core.Path.{◌≡◌, refl, ap, sym, ◌∙◌}
use mathlib.Core.Bool.{Bool, true, false, cond, true≢false}
use native.Mathlib.Omega.{arith}
use native.Mathlib.Decide.{dec_le}
use borrow.Author.Tests.{lt-ltb, le-ltb, ltb-true, ltb-false}
use lib.Dec.{ltb}
use borrow.Author.Count.{below_more as more}
use Rattle.check_searches.specs.First.{first, some_below}

-- the test fails for all numbers below n
abbrev pub Below : (ℕ → Bool) → ℕ → Type 0
Below t n = (i : ℕ) → i < n → t i ≡ false

pub below_zero : (t : ℕ → Bool) → Below t 0
below_zero t i l = absurd (omega arith)

pub below_more : (t : ℕ → Bool) (n : ℕ) → Below t n → t n ≡ false → Below t (n + 1)
below_more t n b h = more (λ i. t i ≡ false) n b h

-- a search that found its number
pub first_at : (t : ℕ → Bool) (n i : ℕ) → i < n → Below t i → t i ≡ true → first t n ≡ i
unfolding first
first_at t zero i l b h = absurd (omega arith)
first_at t (suc n) zero l b h = rw h
first_at t (suc n) (suc i) l b h =
    rw (b 0 (omega arith)) (ap suc (first_at (λ k. t (suc k)) n i (omega arith) (λ k m. b (suc k) (omega arith)) h))

-- a search that found no number
pub first_none : (t : ℕ → Bool) (n : ℕ) → Below t n → first t n ≡ n
unfolding first
first_none t zero b = refl
first_none t (suc n) b = rw (b 0 (omega arith)) (ap suc (first_none (λ k. t (suc k)) n (λ k m. b (suc k) (omega arith))))

-- the same for whether a number exists
pub some_at : (t : ℕ → Bool) (n i : ℕ) → i < n → Below t i → t i ≡ true → some_below t n ≡ true
some_at t n i l b h = rw (first_at t n i l b h) (lt-ltb i n l)

pub some_none : (t : ℕ → Bool) (n : ℕ) → Below t n → some_below t n ≡ false
some_none t n b = rw (first_none t n b) (le-ltb n n (omega arith))

-- the test fails before the first place, and holds there if that is below n
before_step : (t : ℕ → Bool) (m : ℕ) (b : Bool) → t 0 ≡ b → Below (λ k. t (suc k)) m → Below t (cond b 0 (suc m))
before_step t m true e h i l = absurd (omega arith)
before_step t m false e h zero l = e
before_step t m false e h (suc i) l = h i (omega arith)

pub first_before : (t : ℕ → Bool) (n : ℕ) → Below t (first t n)
unfolding first
first_before t zero i l = absurd (omega arith)
first_before t (suc n) i l = before_step t (first (λ k. t (suc k)) n) (t 0) refl (first_before (λ k. t (suc k)) n) i l

holds_step : (t : ℕ → Bool) (m n : ℕ) (b : Bool) → t 0 ≡ b → (m < n → t (suc m) ≡ true) → cond b 0 (suc m) < suc n → t (cond b 0 (suc m)) ≡ true
holds_step t m n true e h l = e
holds_step t m n false e h l = h (omega arith)

pub first_holds : (t : ℕ → Bool) (n : ℕ) → first t n < n → t (first t n) ≡ true
unfolding first
first_holds t zero l = absurd (omega arith)
first_holds t (suc n) l = holds_step t (first (λ k. t (suc k)) n) n (t 0) refl (first_holds (λ k. t (suc k)) n) l

most_step : (m n : ℕ) (b : Bool) → m ≤ n → cond b 0 (suc m) ≤ suc n
most_step m n true h = omega arith
most_step m n false h = omega arith

pub first_most : (t : ℕ → Bool) (n : ℕ) → first t n ≤ n
unfolding first
first_most t zero = omega arith
first_most t (suc n) = most_step (first (λ k. t (suc k)) n) n (t 0) (first_most (λ k. t (suc k)) n)

-- no place passes the test
pub first_all : (t : ℕ → Bool) (n : ℕ) → first t n ≡ n → Below t n
first_all t n e = rw e at (first_before t n)

pub some_all : (t : ℕ → Bool) (n : ℕ) → some_below t n ≡ false → Below t n
some_all t n e i l = first_before t n i (omega (arith, ltb-false (first t n) n e))

-- some place passes the test
pub some_which : (t : ℕ → Bool) (n : ℕ) → some_below t n ≡ true → (i : ℕ) × (i < n) × (t i ≡ true)
some_which t n e = let l = ltb-true (first t n) n e in (first t n, l, first_holds t n l)

pub some_here : (t : ℕ → Bool) (n i : ℕ) → i < n → t i ≡ true → some_below t n ≡ true
some_here t n i l h = lt-ltb (first t n) n (less (first t n) (first_before t n) (first_most t n))
  where
    less : (m : ℕ) → Below t m → m ≤ n → m < n
    less m b k = elim (dec_le n m) [ yes p ↦ absurd (true≢false (sym h ∙ b i (omega arith))) | no p ↦ omega arith ]

-- the result of a search, compared with the number of places
pub test_found : {r x m n : ℕ} → r ≡ x → n ≡ m → r < m → ltb x n ≡ true
test_found {x = x} {n = n} e k l = lt-ltb x n (omega arith)

pub test_none : {r x m n : ℕ} → r ≡ x → n ≡ m → m ≤ r → ltb x n ≡ false
test_none {x = x} {n = n} e k l = le-ltb x n (omega arith)

-- a search of m places that has passed those before i
pub record Passed (t : ℕ → Bool) (m i : ℕ) : Type 0 where
  pub most : i ≤ m
  pub below : Below t i

pub passed_none : (t : ℕ → Bool) (m : ℕ) → Passed t m 0
passed_none t m = record { most = omega arith; below = below_zero t }

pub passed_more : {t : ℕ → Bool} {m i : ℕ} → Passed t m i → i < m → t i ≡ false → Passed t m (i + 1)
passed_more {t} {i = i} p l h = record { most = omega arith; below = below_more t i p.below h }

-- a search ends where the test holds, or after the last place
pub search_found : {t : ℕ → Bool} {m n i : ℕ} → n ≡ m → Passed t m i → i < m → t i ≡ true → i ≡ first t n
search_found {t} {n = n} {i = i} e p l h = sym (first_at t n i (omega arith) p.below h)

pub search_none : {t : ℕ → Bool} {m n i : ℕ} → n ≡ m → Passed t m i → m ≤ i → i ≡ first t n
search_none {t} {n = n} {i = i} e p l = let d : i ≡ n = omega (arith, p.most) in d ∙ sym (first_none t n (rw d at p.below))

-- the same where a range ends the search: its end is the result
pub range_none : {t : ℕ → Bool} {m n i : ℕ} → n ≡ m → Passed t m i → m ≤ i → m ≡ first t n
range_none {t} {n = n} {i = i} e p l =
    let d : i ≡ n = omega (arith, p.most) in sym e ∙ sym (first_none t n (rw d at p.below))

pub some_found : {t : ℕ → Bool} {m n i : ℕ} → n ≡ m → Passed t m i → i < m → t i ≡ true → true ≡ some_below t n
some_found {t} {n = n} {i = i} e p l h = sym (some_at t n i (omega arith) p.below h)

pub some_missed : {t : ℕ → Bool} {m n i : ℕ} → n ≡ m → Passed t m i → m ≤ i → false ≡ some_below t n
some_missed {t} {n = n} {i = i} e p l = let d : i ≡ n = omega (arith, p.most) in sym (some_none t n (rw d at p.below))
