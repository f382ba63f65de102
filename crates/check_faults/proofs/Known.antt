-- What is known of a mesh if a search found nothing. Assumes nothing.
use Prim.Native.Nat.{ℕ, ◌+◌, ◌≤◌}
use mathlib.Core.Path.{◌≡◌, refl, sym}
use mathlib.Core.Bool.{Bool, true, false, not, ◌&&◌, true≢false}
use mathlib.Core.List.{List}
use native.Mathlib.Omega.{arith}
use lib.Dec.{leb, eqb}
use lib.ListN.{length, get_or}
use borrow.Author.Tests.{eqb-true, leb-true, leb-false, not-false}
use Rattle.mesh_geometry.specs.declared.Point.{Point}
use Rattle.mesh_geometry.specs.Faces.{at}
use Rattle.check_searches.specs.Indices.{first_unknown_index, AllNumbered}
use Rattle.check_faults.specs.Inside.{inside, first_outside}
use Rattle.check_faults.specs.Turns.{Small, AllSmall}
use Rattle.check_searches.proofs.First.{first_before}

-- every index is the number of a point
pub all_numbered : (n : ℕ) (ws : List ℕ) → length ws ≤ first_unknown_index ws n → AllNumbered n ws
unfolding first_unknown_index
all_numbered n ws h = record { at = λ k l. leb-false n (get_or ws k 0) (first_before (λ i. leb n (get_or ws i 0)) (length ws) k (omega arith)) }

both_true : (x y z : Bool) → (x && y && z) ≡ true → (x ≡ true) × (y ≡ true)
both_true true true z h = (refl, refl)
both_true true false z h = absurd (true≢false (sym h))
both_true false y z h = absurd (true≢false (sym h))

-- the coordinates of a point inside are small enough for areas
inside_small : (b : Bool) (p : Point) → inside b p ≡ true → Small p
inside_small true p h =
    let e = eqb-true (p.u + p.v + p.w) 196608 h in
    record { u = omega arith; v = omega arith }
inside_small false p h =
    let w = both_true (leb p.u 65536) (leb p.v 65536) (eqb p.w 0) h in
    record { u = omega (arith, leb-true p.u 65536 w.0); v = omega (arith, leb-true p.v 65536 w.1) }

pub all_small : (b : Bool) (ps : List Point) → length ps ≤ first_outside b ps → AllSmall ps
unfolding first_outside
all_small b ps h = record {
  at = λ k l. inside_small b (at ps k) (not-false (inside b (at ps k)) (first_before (λ i. not (inside b (at ps i))) (length ps) k (omega arith)));
}
