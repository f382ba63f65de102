-- Numbers that distinguish answers. Assumes nothing.
use Prim.Native.Nat.{ℕ}
use mathlib.Core.Path.{◌≡◌, ap}
use mathlib.Core.Bool.{false}
use mathlib.Core.List.{List}
use borrow.Author.Tests.{eqb-false}
use lib.Dec.{eqb}
use lib.ListN.{get_or}

-- lists that begin with different numbers are not equal
pub apart : {xs ys : List ℕ} → xs ≡ ys → eqb (get_or xs 0 0) (get_or ys 0 0) ≡ false → ⊥
apart e h = eqb-false _ _ h (ap (λ (l : List ℕ). get_or l 0 0) e)
