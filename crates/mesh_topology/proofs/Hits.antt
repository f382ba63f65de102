-- Laws of `hit`, and of sums of a weight over sides. Assumes nothing.
use Prim.Native.Nat.{ℕ, ◌+◌, ◌≤◌}
use mathlib.Core.Path.{◌≡◌, refl, ap₂, fun_ext}
use mathlib.Core.Bool.{Bool, true, false}
use mathlib.Core.List.{List, [], ◌∷◌, ◌++◌}
use native.Mathlib.Omega.{arith}
use lib.Dec.{eqb}
use borrow.Author.Tests.{eqb-true, eq-eqb}
use Rattle.strip.specs.declared.triangle.Triangle.{Triangle}
use Rattle.mesh_topology.specs.Sides.{both, hit, flip, sum_sides}

both_comm : (s t : Bool) → both s t ≡ both t s
both_comm true true = refl
both_comm true false = refl
both_comm false true = refl
both_comm false false = refl

both_le : (s t : Bool) → both s t ≤ 1
both_le true true = omega arith
both_le true false = omega arith
both_le false true = omega arith
both_le false false = omega arith

both_true : (s t : Bool) → 1 ≤ both s t → (s ≡ true) × (t ≡ true)
both_true true true h = (refl, refl)
both_true true false h = absurd (omega arith)
both_true false true h = absurd (omega arith)
both_true false false h = absurd (omega arith)

pub hit_flip : (x y : ℕ) → flip (hit x y) ≡ hit y x
unfolding hit
hit_flip x y = fun_ext (λ p. fun_ext (λ q. both_comm (eqb x q) (eqb y p)))

pub hit_le : (x y p q : ℕ) → hit x y p q ≤ 1
unfolding hit
hit_le x y p q = both_le (eqb x p) (eqb y q)

pub hit_at : (x y p q : ℕ) → 1 ≤ hit x y p q → (x ≡ p) × (y ≡ q)
unfolding hit
hit_at x y p q h = let w = both_true (eqb x p) (eqb y q) h in (eqb-true x p w.0, eqb-true y q w.1)

pub hit_self : (p q : ℕ) → hit p q p q ≡ 1
unfolding hit
hit_self p q = ap₂ both (eq-eqb p p refl) (eq-eqb q q refl)

pub sum_append : (f : ℕ → ℕ → ℕ) (s t : List Triangle) → sum_sides f (s ++ t) ≡ sum_sides f s + sum_sides f t
unfolding sum_sides
sum_append f [] t = omega arith
sum_append f (u ∷ s) t = omega (arith, sum_append f s t)
