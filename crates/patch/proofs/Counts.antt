-- The number of segments of a level, and of several. Assumes nothing.
use Prim.Native.Nat.{ℕ, ◌≤◌}
use mathlib.Core.Path.{◌≡◌, sym, ◌∙◌}
use mathlib.Core.Bool.{true, false}
use mathlib.Core.List.{List}
use lib.Dec.{eqb}
use lib.Ieee.{Float}
use lib.ListN.{length}
use Rattle.level.specs.declared.Spacing.{Spacing}
use Rattle.level.specs.Top.{Top}
use Rattle.level.specs.Segments.{segments_of}
use Rattle.level.proofs.Valid.{segments_valid}
use Rattle.patch.specs.Every.{every}
use Rattle.patch.proofs.Every.{total, every_one, not_every_one}

-- how many segments a level gives
abbrev pub count : Spacing → ℕ → Float → ℕ
count s t x = (segments_of s t x).count

least : (s : Spacing) (t : ℕ) → Top t → (x : Float) → 1 ≤ count s t x
least s t top x = (segments_valid s t top x).some

-- every level gives one segment exactly if all of them give as many as there are levels
module _ (s : Spacing) (t : ℕ) (top : Top t) (xs : List Float) {n : ℕ} (sum : total (count s t) xs ≡ n) where
  pub all_one : n ≡ length xs → every (λ x. eqb (count s t x) 1) xs ≡ true
  all_one e = every_one (count s t) (least s t top) xs (sum ∙ e)

  pub not_all_one : (n ≡ length xs → ⊥) → every (λ x. eqb (count s t x) 1) xs ≡ false
  not_all_one h = not_every_one (count s t) (least s t top) xs (λ e. h (sym sum ∙ e))
