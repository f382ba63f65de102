-- A row of places without its ends. Assumes nothing.
use Prim.Native.Nat.{ℕ, suc, ◌-◌, ◌<◌}
use mathlib.Core.Path.{◌≡◌, ap, ◌∙◌}
use mathlib.Core.List.{List}
use native.Mathlib.Omega.{arith}
use lib.ListN.{length, take, drop, length-take, length-drop}
use lib.Seq.{get_or-take, get_or-drop}
use Rattle.vertices.specs.Rows.{place_in}

abbrev pub middle : List ℕ → List ℕ
middle row = take (length row - 1 - 1) (drop 1 row)

pub middle_length : (row : List ℕ) → length (middle row) ≡ length row - 1 - 1
middle_length row = length-take (length row - 1 - 1) (drop 1 row) ∙ omega (arith, length-drop 1 row)

pub middle_at : (row : List ℕ) (i : ℕ) → i < length row - 1 - 1 → place_in (middle row) i ≡ place_in row (suc i)
middle_at row i l = get_or-take (length row - 1 - 1) (drop 1 row) i 0 l ∙ get_or-drop 1 row i 0 ∙ ap (place_in row) (omega arith)
