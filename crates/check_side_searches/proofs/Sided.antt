-- The search for a directed side, which starts near a triangle. Assumes nothing.
use Prim.Native.Nat.{ℕ, ◌≤◌}
use mathlib.Core.Path.{◌≡◌, refl, sym}
use mathlib.Core.Bool.{Bool, true, false}
use mathlib.Core.List.{List}
use native.Mathlib.Omega.{arith}
use lib.ListN.{length}
use Rattle.strip.specs.declared.triangle.Triangle.{Triangle}
use Rattle.check_searches.specs.Triangles.{triangle_at, has_side, some_side}
use Rattle.check_side_searches.specs.Skips.{Sided}
use Rattle.check_searches.proofs.First.{some_here, some_none}

-- the side was found among some triangles
pub sided_true : {from to : ℕ} {r : Bool} (ts : List Triangle) (x y : ℕ) → Sided ts from to x y r → r ≡ true → true ≡ some_side ts x y
sided_true ts x y h e =
    let w = h.yes e in
    sym (some_here (λ i. has_side (triangle_at ts i) x y) (length ts) w.0 w.1 w.2)

-- all triangles were searched
pub sided_all : {to : ℕ} {r : Bool} (ts : List Triangle) (x y : ℕ) → Sided ts 0 to x y r → length ts ≤ to → r ≡ some_side ts x y
sided_all {r = true} ts x y h l = sided_true ts x y h refl
sided_all {r = false} ts x y h l = sym (some_none (λ i. has_side (triangle_at ts i) x y) (length ts) (λ i m. h.no refl i (omega arith) (omega arith)))
