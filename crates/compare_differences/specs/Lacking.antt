-- The entries of one list that another list lacks. Assumes nothing.
use Rattle.std.specs.Prelude.{ℕ, Bool, cond, not, ◌&&◌, List, [], ◌∷◌}
use Rattle.buffer.specs.Over.{flat}
use Rattle.check_searches.specs.First.{some_below}

-- a list as its length and its entries by number
pub record Row (A : Type 0) : Type 0 where
  pub count : ℕ
  pub entry : ℕ → A

-- the numbers below n that pass the test, in order
unfoldable pub passing : (ℕ → Bool) → ℕ → List ℕ
passing t n = flat (λ k. cond (t k) (k ∷ []) []) 0 n

-- whether one of the first n entries is the same as x
abbrev pub among : {A : Type 0} → (A → A → Bool) → Row A → ℕ → A → Bool
among same xs n x = some_below (λ i. same (xs.entry i) x) n

-- whether entry k of xs is not in ys, and not earlier in xs
abbrev pub lacks : {A : Type 0} → (A → A → Bool) → Row A → Row A → ℕ → Bool
lacks same xs ys k = not (among same ys ys.count (xs.entry k)) && not (among same xs k (xs.entry k))

-- the numbers of the entries of xs that ys lacks, in order; of equal entries only the first is listed
abbrev pub lacking : {A : Type 0} → (A → A → Bool) → Row A → Row A → List ℕ
lacking same xs ys = passing (lacks same xs ys) xs.count
