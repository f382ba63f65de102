-- What the result of a search shows, if its test decides a property. Assumes nothing.
use Prim.Native.Nat.{ℕ, ◌≤◌, ◌<◌}
use mathlib.Core.Path.{◌≡◌, refl}
use mathlib.Core.Bool.{Bool, true, false}
use native.Mathlib.Omega.{arith}
use borrow.Author.Tests.{ltb-true}
use Rattle.check_searches.specs.First.{first, some_below}
use Rattle.check_searches.proofs.First.{Below, first_at, first_none, first_before, first_holds, some_at, some_none, some_all}
use Rattle.check_soundness.specs.Firsts.{Every, FirstNot, NoPair, FirstPair}

-- below n the test fails exactly if P holds
pub record Decides (t : ℕ → Bool) (P : ℕ → Type 0) (n : ℕ) : Type 0 where
  pub good : (i : ℕ) → i < n → t i ≡ false → P i
  pub bad : (i : ℕ) → i < n → t i ≡ true → P i → ⊥

module _ {t : ℕ → Bool} {P : ℕ → Type 0} {n : ℕ} (h : Decides t P n) where
  fails : (i : ℕ) → i < n → P i → t i ≡ false
  fails i l p = go (t i) refl
    where
      go : (b : Bool) → t i ≡ b → t i ≡ false
      go true e = absurd (h.bad i l e p)
      go false e = e

  -- the search found nothing
  pub decides_all : n ≤ first t n → Every P n
  decides_all l i m = h.good i m (first_before t n i (omega arith))

  pub all_none : Every P n → first t n ≡ n
  all_none p = first_none t n (λ i l. fails i l (p i l))

  -- the search found a number
  pub decides_first : first t n < n → FirstNot P n (first t n)
  decides_first l = record {
    below = l;
    here = h.bad (first t n) l (first_holds t n l);
    before = λ i m. h.good i (omega arith) (first_before t n i m);
  }

  pub first_is : (k : ℕ) → FirstNot P n k → first t n ≡ k
  first_is k f = first_at t n k f.below (λ i l. fails i (omega (arith, f.below)) (f.before i l)) (go (t k) refl)
    where
      go : (b : Bool) → t k ≡ b → t k ≡ true
      go true e = e
      go false e = absurd (f.here (h.good k f.below e))

-- below n the test holds for two numbers exactly if P does
pub record DecidesPair (t : ℕ → ℕ → Bool) (P : ℕ → ℕ → Type 0) (n : ℕ) : Type 0 where
  pub yes : (i j : ℕ) → i < j → j < n → t i j ≡ true → P i j
  pub no : (i j : ℕ) → i < j → j < n → t i j ≡ false → P i j → ⊥

-- the first number that passes the test with an earlier one
abbrev pub later : (ℕ → ℕ → Bool) → ℕ → ℕ
later t n = first (λ j. some_below (λ i. t i j) j) n

module _ (t : ℕ → ℕ → Bool) {P : ℕ → ℕ → Type 0} {n : ℕ} (h : DecidesPair t P n) where
  apart : (i j : ℕ) → i < j → j < n → (P i j → ⊥) → t i j ≡ false
  apart i j l m p = go (t i j) refl
    where
      go : (b : Bool) → t i j ≡ b → t i j ≡ false
      go true e = absurd (p (h.yes i j l m e))
      go false e = e

  pub pair_none : n ≤ later t n → NoPair P n
  pair_none l i j p q = h.no i j p q (some_all (λ k. t k j) j (first_before (λ k. some_below (λ x. t x k) k) n j (omega arith)) i p)

  pub none_pair : NoPair P n → later t n ≡ n
  none_pair p = first_none _ n (λ j l. some_none _ j (λ i m. apart i j m l (p i j m l)))

  pub pair_first : later t n < n → FirstPair P n (first (λ i. t i (later t n)) (later t n)) (later t n)
  pair_first l =
      let j = later t n in
      let m = ltb-true (first (λ i. t i j) j) j (first_holds (λ k. some_below (λ x. t x k) k) n l) in
      record {
        earlier = m;
        below = l;
        here = h.yes _ j m l (first_holds (λ i. t i j) j m);
        least = λ i p. h.no i j (omega arith) l (first_before (λ x. t x j) j i p);
        before = λ i k p q. h.no i k p (omega arith) (some_all (λ x. t x k) k (first_before (λ y. some_below (λ x. t x y) y) n k q) i p);
      }

  module _ {i j : ℕ} (f : FirstPair P n i j) where
    holds : t i j ≡ true
    holds = go (t i j) refl
      where
        go : (b : Bool) → t i j ≡ b → t i j ≡ true
        go true e = e
        go false e = absurd (h.no i j f.earlier f.below e f.here)

    below : Below (λ x. t x j) i
    below x l = apart x j (omega (arith, f.earlier)) f.below (f.least x l)

    pub later_is : later t n ≡ j
    later_is =
        first_at _ n j f.below (λ k l. some_none _ k (λ x m. apart x k m (omega (arith, f.below)) (f.before x k m l)))
        (some_at _ j i f.earlier below holds)

    pub earlier_is : first (λ x. t x j) j ≡ i
    earlier_is = first_at _ j i f.earlier below holds
