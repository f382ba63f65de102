-- If each element counts 1 or 0 and all together count 1, exactly one element counts. Assumes nothing.
use Prim.Native.Nat.{ℕ, zero, suc, ◌≤◌, ◌<◌}
use mathlib.Core.Path.{◌≡◌, refl, ap}
use mathlib.Core.List.{List, ◌∷◌}
use native.Mathlib.Omega.{arith}
use lib.ListN.{length, get_or}
use Rattle.mesh_geometry.proofs.Lists.{All, none, more}
use Rattle.mesh_geometry.proofs.Members.{sum}

-- m is n + 1 if Q holds, and n if not
pub data Counted (Q : Type 0) (m n : ℕ) : Type 0 where
  once : Q → m ≡ suc n → Counted Q m n
  never : (Q → ⊥) → m ≡ n → Counted Q m n

pub counted_as : {Q R : Type 0} {m n m' n' : ℕ} → (Q → R) → (R → Q) → m ≡ m' → n ≡ n' → Counted Q m n → Counted R m' n'
counted_as f g h k (once x e) = once (f x) (omega arith)
counted_as f g h k (never x e) = never (λ y. x (g y)) (omega arith)

module _ {A : Type 0} (Q : A → Type 0) (m n : A → ℕ) (d : A) where
  abbrev Each : List A → Type 0
  Each xs = All (λ x. Counted (Q x) (m x) (n x)) xs

  at_least : {xs : List A} → Each xs → sum n xs ≤ sum m xs
  unfolding sum
  at_least none = omega arith
  at_least (more (once q e) cs) = omega (arith, at_least cs)
  at_least (more (never q e) cs) = omega (arith, at_least cs)

  nowhere : {xs : List A} → Each xs → sum m xs ≡ sum n xs → (i : ℕ) → i < length xs → Q (get_or xs i d) → ⊥
  unfolding sum
  nowhere none h i l q = omega arith
  nowhere (more (once p e) cs) h i l q = omega (arith, at_least cs)
  nowhere (more (never p e) cs) h zero l q = p q
  nowhere (more (never p e) cs) h (suc i) l q = nowhere cs (omega arith) i (omega arith) q

  -- exactly one element satisfies Q
  pub record One (xs : List A) : Type 0 where
    pub number : ℕ
    pub within : number < length xs
    pub has : Q (get_or xs number d)
    pub only : (i : ℕ) → i < length xs → Q (get_or xs i d) → i ≡ number

  pub exactly_one : {xs : List A} → All (λ x. Counted (Q x) (m x) (n x)) xs → sum m xs ≡ suc (sum n xs) → One xs
  unfolding sum
  exactly_one none h = absurd (omega arith)
  exactly_one {xs = x ∷ xs} (more (once p e) cs) h = record { number = 0; within = omega arith; has = p; only = first }
    where
      first : (i : ℕ) → i < suc (length xs) → Q (get_or (x ∷ xs) i d) → i ≡ 0
      first zero l q = refl
      first (suc i) l q = absurd (nowhere cs (omega arith) i (omega arith) q)
  exactly_one {xs = x ∷ xs} (more (never p e) cs) h = later (exactly_one cs (omega arith))
    where
      later : One xs → One (x ∷ xs)
      later o = record { number = suc o.number; within = omega (arith, o.within); has = o.has; only = only }
        where
          only : (i : ℕ) → i < suc (length xs) → Q (get_or (x ∷ xs) i d) → i ≡ suc o.number
          only zero l q = absurd (p q)
          only (suc i) l q = ap suc (o.only i (omega arith) q)
