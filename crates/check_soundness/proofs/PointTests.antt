-- What the tests of indices and points show. Assumes nothing.
use Prim.Native.Nat.{ℕ, ◌+◌, ◌≤◌}
use mathlib.Core.Path.{◌≡◌, refl, sym, ◌∙◌}
use mathlib.Core.Bool.{Bool, true, false, not, ◌&&◌, true≢false}
use mathlib.Core.List.{List}
use native.Mathlib.Omega.{arith}
use lib.ListN.{length, get_or}
use lib.Dec.{leb, eqb}
use borrow.Author.Tests.{eqb-true, eq-eqb, leb-true, leb-false, le-leb, not-false}
use Rattle.patch.specs.declared.kinds.Patch.{Patch}
use Rattle.patch.specs.declared.kinds.Patch.TheVariants.{Triangles, Quads, Isolines}
use Rattle.mesh_geometry.specs.declared.Point.{Point}
use Rattle.mesh_geometry.specs.Faces.{at}
use Rattle.patch_mesh.specs.InPatch.{InPatch, domain_of}
use Rattle.check_searches.specs.Points.{same_point}
use Rattle.check_faults.specs.Inside.{inside}
use Rattle.check_soundness.specs.Checks.{is_triangles}
use Rattle.check_soundness.specs.Means.{NumberedAt, InsideAt, EqualAt}
use Rattle.check_soundness.proofs.Sides.{both_which}
use Rattle.check_soundness.proofs.Decides.{Decides, DecidesPair}

pub numbered_decides : (ps : List Point) (iw : List ℕ) → Decides (λ k. leb (length ps) (get_or iw k 0)) (NumberedAt ps iw) (length iw)
numbered_decides ps iw = record {
  good = λ k l e. leb-false (length ps) (get_or iw k 0) e;
  bad = λ k l e h. omega (arith, leb-true (length ps) (get_or iw k 0) e);
}

all_three : (x y z : Bool) → (x && y && z) ≡ true → (x ≡ true) × (y ≡ true) × (z ≡ true)
all_three x y z h =
    let w = both_which (x && y) z h in
    let v = both_which x y w.0 in
    (v.0, v.1, w.1)

in_square : (q : Point) → inside false q ≡ true → (q.u ≤ 65536) × (q.v ≤ 65536) × (q.w ≡ 0)
in_square q h =
    let w = all_three (leb q.u 65536) (leb q.v 65536) (eqb q.w 0) h in
    (leb-true q.u 65536 w.0, leb-true q.v 65536 w.1, eqb-true q.w 0 w.2)

square_in : (q : Point) → (q.u ≤ 65536) × (q.v ≤ 65536) × (q.w ≡ 0) → inside false q ≡ true
square_in q h = rw (le-leb q.u 65536 h.0, le-leb q.v 65536 h.1, eq-eqb q.w 0 h.2)

inside_is : (p : Patch) (q : Point) → inside (is_triangles p) q ≡ true → InPatch (domain_of p) q
inside_is (Triangles a b c i) q h = eqb-true (q.u + q.v + q.w) 196608 h
inside_is (Quads a b c d i j) q h = in_square q h
inside_is (Isolines a b) q h = in_square q h

is_inside : (p : Patch) (q : Point) → InPatch (domain_of p) q → inside (is_triangles p) q ≡ true
is_inside (Triangles a b c i) q h = eq-eqb (q.u + q.v + q.w) 196608 h
is_inside (Quads a b c d i j) q h = square_in q h
is_inside (Isolines a b) q h = square_in q h

-- a test does not both hold and fail
pub clash : {b : Bool} → not b ≡ true → b ≡ true → ⊥
clash {b = true} h e = true≢false (sym h)
clash {b = false} h e = true≢false (sym e)

pub inside_decides : (p : Patch) (ps : List Point) → Decides (λ k. not (inside (is_triangles p) (at ps k))) (InsideAt p ps) (length ps)
inside_decides p ps = record {
  good = λ k l e. inside_is p (at ps k) (not-false (inside (is_triangles p) (at ps k)) e);
  bad = λ k l e h. clash e (is_inside p (at ps k) h);
}

pub same_is : (p q : Point) → same_point p q ≡ true → p ≡ q
same_is p q h =
    let w = all_three (eqb p.u q.u) (eqb p.v q.v) (eqb p.w q.w) h in
    λ i. record { u = eqb-true p.u q.u w.0 i; v = eqb-true p.v q.v w.1 i; w = eqb-true p.w q.w w.2 i }

pub is_same : (p q : Point) → p ≡ q → same_point p q ≡ true
is_same p q e = rw (e, eq-eqb q.u q.u refl, eq-eqb q.v q.v refl, eq-eqb q.w q.w refl)

pub equal_decides : (ps : List Point) → DecidesPair (λ i j. same_point (at ps i) (at ps j)) (EqualAt ps) (length ps)
equal_decides ps = record {
  yes = λ i j l m e. same_is (at ps i) (at ps j) e;
  no = λ i j l m e h. true≢false (sym (is_same (at ps i) (at ps j) h) ∙ e);
}
