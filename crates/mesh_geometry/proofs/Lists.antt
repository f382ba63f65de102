-- Lists whose elements all have a property, lists of distinct elements, and tables. Assumes nothing.
use Prim.Native.Nat.{ℕ, zero, suc, ◌<◌}
use mathlib.Core.Path.{◌≡◌, refl, sym}
use mathlib.Core.List.{List, [], ◌∷◌, ◌++◌, map}
use native.Mathlib.Omega.{arith}
use lib.ListN.{length, get_or}
use Rattle.edge.specs.Table.{table}

pub data All {A : Type 0} (Q : A → Type 0) : List A → Type 0 where
  none : All Q []
  more : {x : A} {xs : List A} → Q x → All Q xs → All Q (x ∷ xs)

pub data Distinct {A : Type 0} : List A → Type 0 where
  none : Distinct []
  more : {x : A} {xs : List A} → All (λ y. x ≡ y → ⊥) xs → Distinct xs → Distinct (x ∷ xs)

pub neither : (i j : ℕ) → ¬ (i < j) → ¬ (j < i) → i ≡ j
neither i j h k = omega arith

module _ {A : Type 0} where
  pub all_append : {Q : A → Type 0} {s : List A} (t : List A) → All Q s → All Q t → All Q (s ++ t)
  all_append t none k = k
  all_append t (more h hs) k = more h (all_append t hs k)

  pub all_more : {Q R : A → Type 0} {s : List A} → ((x : A) → Q x → R x) → All Q s → All R s
  all_more f none = none
  all_more f (more {x = x} h hs) = more (f x h) (all_more f hs)

  pub all_at : {Q : A → Type 0} {s : List A} (d : A) (i : ℕ) → i < length s → All Q s → Q (get_or s i d)
  all_at d i l none = absurd (omega arith)
  all_at d zero l (more h hs) = h
  all_at d (suc i) l (more h hs) = all_at d i (omega arith) hs

  pub all_table : (Q : A → Type 0) (f : ℕ → A) (n : ℕ) → ((i : ℕ) → i < n → Q (f i)) → All Q (table f n)
  unfolding table
  all_table Q f zero h = none
  all_table Q f (suc n) h = more (h 0 (omega arith)) (all_table Q (λ i. f (suc i)) n (λ i l. h (suc i) (omega arith)))

  pub get_within : (s : List A) (d e : A) (i : ℕ) → i < length s → get_or s i d ≡ get_or s i e
  get_within [] d e i l = absurd (omega arith)
  get_within (x ∷ s) d e zero l = refl
  get_within (x ∷ s) d e (suc i) l = get_within s d e i (omega arith)

  -- two parts have no element in common, as their properties exclude each other
  pub distinct_append : (Q R : A → Type 0) {s : List A} (t : List A) → ((x y : A) → Q x → R y → x ≡ y → ⊥)
      → All Q s → All R t → Distinct s → Distinct t → Distinct (s ++ t)
  distinct_append Q R t clash q r none k = k
  distinct_append Q R t clash (more {x = x} q qs) r (more h hs) k =
      more (all_append t h (all_more (λ y. clash x y q) r)) (distinct_append Q R t clash qs r hs k)

  pub distinct_table : (f : ℕ → A) (n : ℕ) → ((i j : ℕ) → i < j → j < n → f i ≡ f j → ⊥) → Distinct (table f n)
  unfolding table
  distinct_table f zero h = none
  distinct_table f (suc n) h =
      more (all_table _ (λ i. f (suc i)) n (λ i l. h 0 (suc i) (omega arith) (omega arith)))
      (distinct_table (λ i. f (suc i)) n (λ i j l m. h (suc i) (suc j) (omega arith) (omega arith)))

  distinct_less : (s : List A) (d : A) (i j : ℕ) → i < j → j < length s → Distinct s → get_or s i d ≡ get_or s j d → ⊥
  distinct_less [] d i j l m h e = omega arith
  distinct_less (x ∷ s) d i zero l m h e = omega arith
  distinct_less (x ∷ s) d zero (suc j) l m (more h hs) e = all_at d j (omega arith) h e
  distinct_less (x ∷ s) d (suc i) (suc j) l m (more h hs) e = distinct_less s d i j (omega arith) (omega arith) hs e

  pub distinct_at : (s : List A) (d : A) (i j : ℕ) → i < length s → j < length s → Distinct s → get_or s i d ≡ get_or s j d → i ≡ j
  distinct_at s d i j l m h e = neither i j (λ k. distinct_less s d i j k m h e) (λ k. distinct_less s d j i k l h (sym e))

pub all_map : {A B : Type 0} (f : A → B) (Q : B → Type 0) {s : List A} → All (λ x. Q (f x)) s → All Q (map f s)
all_map f Q none = none
all_map f Q (more h hs) = more h (all_map f Q hs)
