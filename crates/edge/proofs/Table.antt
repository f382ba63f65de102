-- Laws of `table f n`, the list f 0, .. f (n - 1). Assumes nothing.
use mathlib.Core.Path.{◌≡◌, refl, sym, ap, ◌∙◌}
use mathlib.Core.List.{List}
use Prim.Native.Nat.{ℕ, zero, suc, ◌<◌}
use native.Mathlib.Omega.{arith}
use lib.ListN.{length, get_or}
use lib.Seq.{ext_get_or}
use Rattle.edge.specs.Table.{table}

module _ {A : Type 0} where
  pub length_table : (f : ℕ → A) (n : ℕ) → length (table f n) ≡ n
  unfolding table
  length_table f zero = refl
  length_table f (suc n) = ap suc (length_table (λ i. f (suc i)) n)

  pub get_table : (f : ℕ → A) (n : ℕ) (d : A) (i : ℕ) → i < n → get_or (table f n) i d ≡ f i
  unfolding table
  get_table f zero d i h = absurd (omega arith)
  get_table f (suc n) d zero h = refl
  get_table f (suc n) d (suc i) h = get_table (λ j. f (suc j)) n d i (omega arith)

  -- a list whose entries are f 0, .. f (n - 1)
  pub is_table : (f : ℕ → A) (n : ℕ) (d : A) (xs : List A) → length xs ≡ n → ((i : ℕ) → i < n → get_or xs i d ≡ f i) → xs ≡ table f n
  is_table f n d xs e at =
      ext_get_or d xs (table f n) (e ∙ sym (length_table f n)) (λ i h. let l : i < n = omega arith in at i l ∙ sym (get_table f n d i l))
