-- One list lacks nothing of another exactly if it has all its entries. Assumes nothing.
use Prim.Native.Nat.{ℕ, zero, suc, ◌+◌, ◌<◌}
use mathlib.Core.Path.{◌≡◌, refl, ap}
use mathlib.Core.Bool.{Bool, true, false, cond, not, ◌&&◌, true≢false}
use mathlib.Core.Logic.{◌⊎◌, inl, inr, ⊎_elim}
use mathlib.Core.List.{List, [], ◌∷◌, ◌++◌}
use native.Mathlib.Nat.{add-zero}
use native.Mathlib.Omega.{arith}
use lib.ListN.{length}
use Rattle.buffer.specs.Over.{flat}
use Rattle.check_searches.proofs.First.{Below, some_which, some_here}
use Rattle.compare_differences.specs.Lacking.{Row, passing, among, lacks, lacking}
use Rattle.compare_sameness.specs.Same.{In, AllIn}
use Rattle.compare_lists.proofs.Passing.{one, passing_none}
use Rattle.compare_differences.proofs.Tests.{lacks_found}

-- ---- no number passes the test
skipped : (b : Bool) (k : ℕ) (ks : List ℕ) → cond b (k ∷ []) [] ++ ks ≡ [] → (b ≡ false) × (ks ≡ [])
skipped true k ks e = absurd (omega (arith, ap length e))
skipped false k ks e = (refl, e)

none_flat : (t : ℕ → Bool) (i n : ℕ) → flat (one t) i n ≡ [] → (j : ℕ) → j < n → t (i + j) ≡ false
unfolding flat
none_flat t i zero h j l = absurd (omega arith)
none_flat t i (suc n) h zero l = rw add-zero (skipped (t i) i _ h).0
none_flat t i (suc n) h (suc j) l =
    let e : i + suc j ≡ i + 1 + j = omega arith in
    rw e (none_flat t (i + 1) n (skipped (t i) i _ h).1 j (omega arith))

pub none_passing : (t : ℕ → Bool) (n : ℕ) → passing t n ≡ [] → Below t n
unfolding passing
none_passing t n h j l = let e : 0 + j ≡ j = omega arith in rw e at (none_flat t 0 n h j l)

-- ---- an entry is not listed if the other list has it, or an earlier entry is the same
which : (x y : Bool) → (not x && not y) ≡ false → (x ≡ true) ⊎ (y ≡ true)
which true y e = inl refl
which false true e = inr refl
which false false e = absurd (true≢false e)

module _ {A : Type 0} (same : A → A → Bool) (Same : A → A → Type 0) (reads : (x y : A) → same x y ≡ true → Same x y)
    (tests : (x y : A) → Same x y → same x y ≡ true) (joins : (x y z : A) → Same x y → Same y z → Same x z) (xs ys : Row A) where
  found : (n : ℕ) → Below (lacks same xs ys) xs.count → (k : ℕ) → k < n → k < xs.count → In Same ys (xs.entry k)
  found zero h k l m = absurd (omega arith)
  found (suc n) h k l m = ⊎_elim
      (λ e. let w = some_which _ _ e in (w.0, w.1, reads (ys.entry w.0) (xs.entry k) w.2))
      (λ e. let w = some_which _ k e in
      let v = found n h w.0 (omega (arith, w.1)) (omega (arith, w.1)) in
      (v.0, v.1, joins (ys.entry v.0) (xs.entry w.0) (xs.entry k) v.2 (reads (xs.entry w.0) (xs.entry k) w.2)))
      (which (among same ys ys.count (xs.entry k)) (among same xs k (xs.entry k)) (h k m))

  pub none_within : lacking same xs ys ≡ [] → AllIn Same xs ys
  none_within e k l = found (suc k) (none_passing (lacks same xs ys) xs.count e) k (omega arith) l

  pub within_none : AllIn Same xs ys → lacking same xs ys ≡ []
  within_none h = passing_none (lacks same xs ys) xs.count
      (λ k l. let w = h k l in lacks_found same xs ys k (some_here _ ys.count w.0 w.1 (tests (ys.entry w.0) (xs.entry k) w.2)))
