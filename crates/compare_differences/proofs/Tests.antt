-- Tests that agree, and what follows for a search. Assumes nothing.
use Prim.Native.Nat.{ℕ, zero, suc, ◌<◌}
use mathlib.Core.Path.{◌≡◌, refl, ap}
use mathlib.Core.Bool.{Bool, true, false, not, ◌&&◌}
use native.Mathlib.Omega.{arith}
use lib.Dec.{ltb}
use Rattle.check_searches.specs.First.{first, some_below}
use Rattle.mesh_geometry.specs.Cover.{Face}
use Rattle.compare_differences.specs.Meshes.{same_corners, same_face}
use Rattle.compare_differences.specs.Lacking.{Row, among, lacks}

-- two tests that agree below n find the same number
pub first_same : (f g : ℕ → Bool) (n : ℕ) → ((i : ℕ) → i < n → f i ≡ g i) → first f n ≡ first g n
unfolding first
first_same f g zero h = refl
first_same f g (suc n) h = rw (h 0 (omega arith), first_same (λ i. f (suc i)) (λ i. g (suc i)) n (λ i l. h (suc i) (omega arith)))

pub some_same : (f g : ℕ → Bool) (n : ℕ) → ((i : ℕ) → i < n → f i ≡ g i) → some_below f n ≡ some_below g n
some_same f g n h = ap (λ (k : ℕ). ltb k n) (first_same f g n h)

-- equal corners in the same order make the same triangle
pub in_order : (f g : Face) → same_corners f g ≡ true → same_face f g ≡ true
in_order f g e = rw e

and-true : (b : Bool) → (b && true) ≡ b
and-true true = refl
and-true false = refl

-- an entry with no earlier equal entry
pub lacks_single : {A : Type 0} (same : A → A → Bool) (xs ys : Row A) (k : ℕ) → among same xs k (xs.entry k) ≡ false
    → lacks same xs ys k ≡ not (among same ys ys.count (xs.entry k))
lacks_single same xs ys k e = rw e (and-true _)

-- an entry that the other list has, and one that it lacks
pub lacks_found : {A : Type 0} (same : A → A → Bool) (xs ys : Row A) (k : ℕ) → among same ys ys.count (xs.entry k) ≡ true
    → lacks same xs ys k ≡ false
lacks_found same xs ys k e = rw e

pub lacks_other : {A : Type 0} (same : A → A → Bool) (xs ys : Row A) (k : ℕ) → among same ys ys.count (xs.entry k) ≡ false
    → lacks same xs ys k ≡ not (among same xs k (xs.entry k))
lacks_other same xs ys k e = rw e
