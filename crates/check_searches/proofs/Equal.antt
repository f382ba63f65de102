-- The test `same_point` holds exactly if the points are equal. Assumes nothing.
use mathlib.Core.Path.{◌≡◌, refl, sym}
use mathlib.Core.Bool.{Bool, true, false, ◌&&◌, true≢false}
use lib.Dec.{eqb}
use borrow.Author.Tests.{eq-eqb, eqb-true}
use Rattle.mesh_geometry.specs.declared.Point.{Point}
use Rattle.check_searches.specs.Points.{same_point}

all_three : (x y z : Bool) → (x && y && z) ≡ true → (x ≡ true) × (y ≡ true) × (z ≡ true)
all_three true true z h = (refl, refl, h)
all_three true false z h = absurd (true≢false (sym h))
all_three false y z h = absurd (true≢false (sym h))

pub same_is : (p q : Point) → same_point p q ≡ true → p ≡ q
same_is p q h =
    let w = all_three (eqb p.u q.u) (eqb p.v q.v) (eqb p.w q.w) h in
    λ i. record { u = eqb-true p.u q.u w.0 i; v = eqb-true p.v q.v w.1 i; w = eqb-true p.w q.w w.2 i }

pub is_same : (p q : Point) → p ≡ q → same_point p q ≡ true
is_same p q e = rw (e, eq-eqb q.u q.u refl, eq-eqb q.v q.v refl, eq-eqb q.w q.w refl)
