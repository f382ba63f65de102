-- Tests of the elements of a list, in the code's order. Assumes nothing.
use Prim.Native.Nat.{ℕ, ◌+◌, ◌≤◌, ◌<◌}
use mathlib.Core.Path.{◌≡◌, refl}
use mathlib.Core.Bool.{Bool, true, false}
use mathlib.Core.List.{List, [], ◌∷◌}
use native.Mathlib.Omega.{arith}
use native.Mathlib.Decide.{dec_le}
use lib.Dec.{eqb}
use lib.ListN.{length, get_or, drop}
use borrow.Author.Tests.{eq-eqb, ne_eqb}
use Rattle.std.proofs.Math.ListN.{drop_of_length-le}
use Rattle.std.proofs.lemmas.List.{drop_more}
use Rattle.patch.specs.Every.{some, every}

module _ {A : Type 0} (test : A → Bool) (xs : List A) (k : ℕ) where
  -- element k passes
  pub some_here : (d : A) → k < length xs → test (get_or xs k d) ≡ true → some test (drop k xs) ≡ true
  unfolding some
  some_here d l h = rw (drop_more xs k d l, h)

  -- element k fails, and the later ones decide
  pub some_past : (d : A) → k < length xs → test (get_or xs k d) ≡ false → some test (drop k xs) ≡ some test (drop (k + 1) xs)
  unfolding some
  some_past d l h = rw (drop_more xs k d l, h)

  -- none is left
  pub some_none : length xs ≤ k → some test (drop k xs) ≡ false
  unfolding some
  some_none l = rw (drop_of_length-le xs l)

-- ---- all counts are 1 exactly if their sum is their number
unfoldable pub total : {A : Type 0} → (A → ℕ) → List A → ℕ
total count [] = 0
total count (x ∷ xs) = count x + total count xs

module _ {A : Type 0} (count : A → ℕ) (least : (x : A) → 1 ≤ count x) where
  pub total_least : (xs : List A) → length xs ≤ total count xs
  unfolding total
  total_least [] = omega arith
  total_least (x ∷ xs) = omega (arith, least x, total_least xs)

  pub every_one : (xs : List A) → total count xs ≡ length xs → every (λ x. eqb (count x) 1) xs ≡ true
  unfolding total every
  every_one [] e = refl
  every_one (x ∷ xs) e =
      rw (eq-eqb (count x) 1 (omega (arith, least x, total_least xs)), every_one xs (omega (arith, least x, total_least xs)))

  pub not_every_one : (xs : List A) → (total count xs ≡ length xs → ⊥) → every (λ x. eqb (count x) 1) xs ≡ false
  unfolding total every
  not_every_one [] e = absurd (e refl)
  not_every_one (x ∷ xs) e = elim (dec_le (count x) 1) [
    | yes h ↦ rw (eq-eqb (count x) 1 (omega (arith, least x)), not_every_one xs (λ g. e (omega (arith, least x))))
    | no h ↦ rw (ne_eqb (count x) 1 (λ g. omega arith))
  ]
