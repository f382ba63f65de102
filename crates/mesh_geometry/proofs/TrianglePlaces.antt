-- The places along a triangle patch's outer edges are those of its runs, and mirror. Assumes nothing.
use Prim.Native.Nat.{ℕ, zero, suc, ◌<◌}
use mathlib.Core.Path.{◌≡◌, refl}
use mathlib.Core.List.{[], ◌∷◌}
use native.Mathlib.Omega.{arith}
use lib.Dec.{eqb}
use Rattle.mesh_geometry.specs.declared.Point.{Point}
use Rattle.mesh_geometry.specs.Seam.{triangle_edge}
use Rattle.mesh_geometry.specs.Edge.{Run, GoodRun, EdgesPlaced}
use Rattle.mesh_geometry.specs.TrianglePoints.{triangle_place, triangle_patch}
use Rattle.mesh_geometry.proofs.Lists.{none, more}
use Rattle.mesh_geometry.proofs.Places.{after, Sees, outline_places}
use Rattle.mesh_geometry.proofs.TrianglePlace.{triangle, least}
use Rattle.mesh_geometry.proofs.TrianglePatch.{front}

-- the coordinate that is 0 on edge k
abbrev opposite : ℕ → Point → ℕ
opposite zero p = p.u
opposite (suc zero) p = p.v
opposite (suc (suc k)) p = p.w

on_is : (k : ℕ) (p : Point) → (triangle_edge k).on p ≡ eqb (opposite k p) 0
on_is zero p = refl
on_is (suc zero) p = refl
on_is (suc (suc k)) p = refl

own : (k x : ℕ) → k < 3 → (opposite k (triangle_place k x 0) ≡ 0) × ((triangle_edge k).along (triangle_place k x 0) ≡ x)
own zero x h = omega arith
own (suc zero) x h = omega arith
own (suc (suc zero)) x h = omega arith
own (suc (suc (suc k))) x h = absurd (omega arith)

others : (k j x : ℕ) → k < 3 → j < 3 → (j ≡ k → ⊥) → (j ≡ after 3 k → 0 < x) → x < 65536 → opposite k (triangle_place j x 0) ≡ 0 → ⊥
others zero zero x h l m n z e = absurd (m refl)
others zero (suc zero) x h l m n z e = omega (arith, n refl)
others zero (suc (suc zero)) x h l m n z e = omega arith
others zero (suc (suc (suc j))) x h l m n z e = absurd (omega arith)
others (suc zero) zero x h l m n z e = omega arith
others (suc zero) (suc zero) x h l m n z e = absurd (m refl)
others (suc zero) (suc (suc zero)) x h l m n z e = omega (arith, n refl)
others (suc zero) (suc (suc (suc j))) x h l m n z e = absurd (omega arith)
others (suc (suc zero)) zero x h l m n z e = omega (arith, n refl)
others (suc (suc zero)) (suc zero) x h l m n z e = omega arith
others (suc (suc zero)) (suc (suc zero)) x h l m n z e = absurd (m refl)
others (suc (suc zero)) (suc (suc (suc j))) x h l m n z e = absurd (omega arith)
others (suc (suc (suc k))) j x h l m n z e = absurd (omega arith)

-- an inner point lies on no edge
inner : (k : ℕ) (p : Point) → 0 < least p → opposite k p ≡ 0 → ⊥
inner zero p h e = omega arith
inner (suc zero) p h e = omega arith
inner (suc (suc k)) p h e = omega arith

sees : (k : ℕ) → k < 3 → Sees triangle_place least 3 k (after 3 k) (opposite k) 0 (triangle_edge k)
sees k h = record {
  on_is = on_is k;
  own = λ x l. (own k x h).0;
  at = λ x l. (own k x h).1;
  others = λ j x. others k j x h;
  inside = inner k;
}

module _ (e0 e1 e2 inside : Run) (g0 : GoodRun e0) (g1 : GoodRun e1) (g2 : GoodRun e2) (g : GoodRun inside) where
  pub patch_places : EdgesPlaced triangle_edge (triangle_patch e0 e1 e2 inside) 0 (e0 ∷ e1 ∷ e2 ∷ [])
  patch_places =
      let f = front e0 e1 e2 inside g0 g1 g2 g in
      rw f.is (outline_places triangle (omega arith) sees f.rest f.deep (e0 ∷ e1 ∷ e2 ∷ []) refl (more g0 (more g1 (more g2 none))))
