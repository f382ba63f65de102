-- The elements of a list, and sums over lists: a list of distinct elements that are all in another list has no greater sum. Assumes nothing.
use Prim.Native.Nat.{ℕ, zero, suc, ◌+◌, ◌≤◌, ◌<◌}
use mathlib.Core.Path.{◌≡◌, refl, sym, ◌∙◌}
use mathlib.Core.Logic.{◌⊎◌, inl, inr, ⊎_elim}
use mathlib.Core.List.Memᴰ
use mathlib.Core.List.{List, [], ◌∷◌, ◌++◌, map, Memᴰ}
use native.Mathlib.Omega.{arith}
use lib.ListN.{length, get_or}
use Rattle.mesh_geometry.proofs.Lists.{All, none, more, Distinct}

-- the sum of f over all elements
unfoldable pub sum : {A : Type 0} → (A → ℕ) → List A → ℕ
sum f [] = 0
sum f (x ∷ xs) = f x + sum f xs

module _ {A : Type 0} where
  pub sum_append : (f : A → ℕ) (xs ys : List A) → sum f (xs ++ ys) ≡ sum f xs + sum f ys
  unfolding sum
  sum_append f [] ys = omega arith
  sum_append f (x ∷ xs) ys = omega (arith, sum_append f xs ys)

  pub member_at : (xs : List A) (d : A) (i : ℕ) → i < length xs → Memᴰ (get_or xs i d) xs
  member_at [] d i h = absurd (omega arith)
  member_at (x ∷ xs) d zero h = Memᴰ.head refl
  member_at (x ∷ xs) d (suc i) h = Memᴰ.tail (member_at xs d i (omega arith))

  pub at_member : (d : A) {x : A} {xs : List A} → Memᴰ x xs → (i : ℕ) × (i < length xs) × (get_or xs i d ≡ x)
  at_member d (Memᴰ.head e) = (0, omega arith, sym e)
  at_member d (Memᴰ.tail m) = let w = at_member d m in (suc w.0, omega (arith, w.1), w.2)

  pub all_members : {Q : A → Type 0} (xs : List A) → ((x : A) → Memᴰ x xs → Q x) → All Q xs
  all_members [] h = none
  all_members (x ∷ xs) h = more (h x (Memᴰ.head refl)) (all_members xs (λ y m. h y (Memᴰ.tail m)))

  pub all_member : {Q : A → Type 0} {x : A} {xs : List A} → All Q xs → Memᴰ x xs → Q x
  all_member none m = elim m [ ]
  all_member (more h hs) (Memᴰ.head e) = rw e h
  all_member (more h hs) (Memᴰ.tail m) = all_member hs m

  pub all_places : {Q : A → Type 0} (xs : List A) (d : A) → ((i : ℕ) → i < length xs → Q (get_or xs i d)) → All Q xs
  all_places [] d h = none
  all_places (x ∷ xs) d h = more (h 0 (omega arith)) (all_places xs d (λ i l. h (suc i) (omega arith)))

  -- no two places hold equal elements
  pub distinct_places : (xs : List A) (d : A)
      → ((i j : ℕ) → i < length xs → j < length xs → get_or xs i d ≡ get_or xs j d → i ≡ j) → Distinct xs
  distinct_places [] d h = none
  distinct_places (x ∷ xs) d h =
      more (all_places xs d (λ i l (e : x ≡ get_or xs i d). omega (arith, h 0 (suc i) (omega arith) (omega arith) e)))
      (distinct_places xs d (λ i j l k e. omega (arith, h (suc i) (suc j) (omega arith) (omega arith) e)))

  -- ys with one x removed
  record Without (x : A) (ys : List A) : Type 0 where
    rest : List A
    weighs : (f : A → ℕ) → sum f ys ≡ f x + sum f rest
    keeps : (y : A) → Memᴰ y ys → (y ≡ x) ⊎ Memᴰ y rest

  without : {x : A} {ys : List A} → Memᴰ x ys → Without x ys
  unfolding sum
  without (Memᴰ.head {xs = ys} e) = record {
    rest = ys;
    weighs = λ f. rw e;
    keeps = λ z m. ⊎_elim (λ h. inl (h ∙ sym e)) inr (Memᴰ.cases_cons m);
  }
  without (Memᴰ.tail {x = y} m) =
      let w = without m in
      record {
        rest = y ∷ w.rest;
        weighs = λ f. omega (arith, w.weighs f);
        keeps = λ z n. ⊎_elim (λ h. inr (Memᴰ.head h)) (λ l. ⊎_elim inl (λ k. inr (Memᴰ.tail k)) (w.keeps z l)) (Memᴰ.cases_cons n);
      }

  pub within_sum : (f : A → ℕ) {xs : List A} (ys : List A) → Distinct xs → ((x : A) → Memᴰ x xs → Memᴰ x ys) → sum f xs ≤ sum f ys
  unfolding sum
  within_sum f ys none h = omega arith
  within_sum f ys (more {x = x} apart d) h =
      let w = without (h x (Memᴰ.head refl)) in
      omega (
        arith,
        w.weighs f,
        within_sum f w.rest d
            (λ y m. ⊎_elim (λ e. absurd (all_member apart m (sym e))) (λ n. n) (w.keeps y (h y (Memᴰ.tail m)))),
      )

module _ {A B : Type 0} (g : A → B) where
  pub sum_map : (f : B → ℕ) (xs : List A) → sum f (map g xs) ≡ sum (λ x. f (g x)) xs
  unfolding sum
  sum_map f [] = refl
  sum_map f (x ∷ xs) = rw (sum_map f xs)

  pub distinct_map : ((x y : A) → g x ≡ g y → x ≡ y) → {xs : List A} → Distinct xs → Distinct (map g xs)
  distinct_map back none = none
  distinct_map back {xs = x ∷ xs} (more apart d) =
      more (all_members _ (λ y m e. let w = Memᴰ.of_map g xs m in all_member apart w.1 (back x w.0 (e ∙ sym w.2)))) (distinct_map back d)
