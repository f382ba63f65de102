-- The places of points along an edge: which points are kept, how places are sorted, and when they mirror. Assumes nothing.
use Prim.Native.Nat.{ℕ, zero, suc, ◌+◌, ◌-◌, ◌≤◌, ◌<◌}
use mathlib.Core.Path.{◌≡◌, refl, ap, ◌∙◌}
use mathlib.Core.Bool.{Bool, true, false, cond}
use mathlib.Core.List.{List, [], ◌∷◌, ◌++◌, map, reverse, reverse-append}
use native.Mathlib.Omega.{arith}
use borrow.Author.Tests.{le-leb, lt-leb}
use Rattle.edge.specs.Table.{table}
use Rattle.mesh_geometry.specs.declared.Point.{Point}
use Rattle.mesh_geometry.specs.Seam.{keep, insert, sorted, Mirrors}
use Rattle.mesh_geometry.specs.Edge.{Run, GoodRun}
use Rattle.mesh_geometry.proofs.Lists.{All, none, more, all_table}
use Rattle.mesh_geometry.proofs.Edge.{good_span, span_less}

module _ (test : Point → Bool) where
  pub keep_append : (s t : List Point) → keep test (s ++ t) ≡ keep test s ++ keep test t
  unfolding keep
  keep_append [] t = refl
  keep_append (p ∷ s) t = rw (keep_append s t) (go (test p))
    where
      go : (b : Bool)
          → cond b (p ∷ (keep test s ++ keep test t)) (keep test s ++ keep test t) ≡ cond b (p ∷ keep test s) (keep test s) ++ keep test t
      go true = refl
      go false = refl

  pub keep_all : {s : List Point} → All (λ p. test p ≡ true) s → keep test s ≡ s
  unfolding keep
  keep_all none = refl
  keep_all (more h hs) = rw (h, keep_all hs)

  pub keep_none : {s : List Point} → All (λ p. test p ≡ false) s → keep test s ≡ []
  unfolding keep
  keep_none none = refl
  keep_none (more h hs) = rw (h, keep_none hs)

  pub keep_first : (f : ℕ → Point) (n : ℕ) → 1 ≤ n → test (f 0) ≡ true → ((i : ℕ) → suc i < n → test (f (suc i)) ≡ false)
      → keep test (table f n) ≡ f 0 ∷ []
  unfolding keep table
  keep_first f zero h a b = absurd (omega arith)
  keep_first f (suc n) h a b = rw (a, keep_none (all_table _ (λ i. f (suc i)) n (λ i l. b i (omega arith))))

module _ {A : Type 0} where
  pub table_last : (f : ℕ → A) (n : ℕ) → table f (suc n) ≡ table f n ++ (f n ∷ [])
  unfolding table
  table_last f zero = refl
  table_last f (suc n) = ap (λ l. f 0 ∷ l) (table_last (λ i. f (suc i)) n)

  pub table_same : (f g : ℕ → A) (n : ℕ) → ((i : ℕ) → i < n → f i ≡ g i) → table f n ≡ table g n
  unfolding table
  table_same f g zero h = refl
  table_same f g (suc n) h = rw (h 0 (omega arith), table_same (λ i. f (suc i)) (λ i. g (suc i)) n (λ i l. h (suc i) (omega arith)))

  table_reverse : (f g : ℕ → A) (n : ℕ) → ((i j : ℕ) → suc (i + j) ≡ n → f i ≡ g j) → reverse (table f n) ≡ table g n
  unfolding table
  table_reverse f g zero h = refl
  table_reverse f g (suc n) h =
      ap reverse (table_last f n) ∙ reverse-append (table f n) (f n ∷ [])
      ∙ rw (h n 0 (omega arith), table_reverse f (λ j. g (suc j)) n (λ i j e. h i (suc j) (omega arith)))

  pub table_map : {B : Type 0} (h : A → B) (f : ℕ → A) (n : ℕ) → map h (table f n) ≡ table (λ i. h (f i)) n
  unfolding table
  table_map h f zero = refl
  table_map h f (suc n) = ap (λ l. h (f 0) ∷ l) (table_map h (λ i. f (suc i)) n)

sorted_table : (x : ℕ → ℕ) (n : ℕ) → ((i : ℕ) → suc i < n → x i ≤ x (suc i)) → sorted (table x n) ≡ table x n
unfolding table sorted insert
sorted_table x zero h = refl
sorted_table x (suc zero) h = refl
sorted_table x (suc (suc n)) h =
    rw (sorted_table (λ i. x (suc i)) (suc n) (λ i l. h (suc i) (omega arith)), le-leb (x 0) (x 1) (h 0 (omega arith)))

insert_last : (x : ℕ) {s : List ℕ} → All (λ y. y < x) s → insert x s ≡ s ++ (x ∷ [])
unfolding insert
insert_last x none = refl
insert_last x (more {x = y} h hs) = rw (lt-leb x y h, insert_last x hs)

module _ {e : Run} (g : GoodRun e) where
  rises : (c : ℕ) → c ≤ suc e.c → sorted (table e.q c) ≡ table e.q c
  rises c h = sorted_table e.q c (λ i l. omega (arith, g.rises i (omega arith)))

  pub good_sorted : sorted (table e.q (suc e.c)) ≡ table e.q (suc e.c)
  good_sorted = rises (suc e.c) (omega arith)

  -- the last place may come first in the list
  pub good_rotated : sorted (e.q e.c ∷ table e.q e.c) ≡ table e.q (suc e.c)
  unfolding sorted
  good_rotated = rw (
    rises e.c (omega arith),
    insert_last (e.q e.c) (all_table (λ y. y < e.q e.c) e.q e.c (λ i l. span_less (good_span g) i e.c l (omega arith))),
    table_last e.q e.c,
  )

  pub good_mirrors : Mirrors (table e.q (suc e.c))
  good_mirrors =
      ap (map (λ x. 65536 - x)) (table_reverse e.q (λ j. e.q (e.c - j)) (suc e.c) (λ i j h. ap e.q (omega arith)))
      ∙ table_map (λ x. 65536 - x) (λ j. e.q (e.c - j)) (suc e.c)
      ∙ table_same _ e.q (suc e.c) (λ i l. omega (arith, g.mirrors i (omega arith)))
