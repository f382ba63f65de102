-- The places along a quad patch's outer edges are those of its runs, and mirror. Assumes nothing.
use Prim.Native.Nat.{ℕ, zero, suc, ◌≤◌, ◌<◌}
use mathlib.Core.Path.{◌≡◌, refl}
use mathlib.Core.List.{List, [], ◌∷◌, ◌++◌}
use native.Mathlib.Omega.{arith}
use lib.Dec.{eqb}
use Rattle.mesh_geometry.specs.declared.Point.{Point}
use Rattle.mesh_geometry.specs.Seam.{quad_edge}
use Rattle.mesh_geometry.specs.Edge.{Run, GoodRun, ring, EdgesPlaced}
use Rattle.mesh_geometry.specs.QuadPoints.{quad_place, quad_patch}
use Rattle.mesh_geometry.proofs.Lists.{All, none, more}
use Rattle.mesh_geometry.proofs.Places.{after, Sees, outline_places}
use Rattle.mesh_geometry.proofs.QuadPlace.{square, inset}
use Rattle.mesh_geometry.proofs.QuadGrid.{inner_deep}

-- edge k is where this coordinate equals `aim k`
abbrev mark : ℕ → Point → ℕ
mark zero p = p.u
mark (suc zero) p = p.v
mark (suc (suc zero)) p = p.u
mark (suc (suc (suc k))) p = p.v

abbrev aim : ℕ → ℕ
aim zero = 0
aim (suc zero) = 0
aim (suc (suc k)) = 65536

on_is : (k : ℕ) (p : Point) → (quad_edge k).on p ≡ eqb (mark k p) (aim k)
on_is zero p = refl
on_is (suc zero) p = refl
on_is (suc (suc zero)) p = refl
on_is (suc (suc (suc k))) p = refl

own : (k x : ℕ) → k < 4 → x ≤ 65536 → (mark k (quad_place k x 0) ≡ aim k) × ((quad_edge k).along (quad_place k x 0) ≡ x)
own zero x h l = omega arith
own (suc zero) x h l = omega arith
own (suc (suc zero)) x h l = omega arith
own (suc (suc (suc zero))) x h l = omega arith
own (suc (suc (suc (suc k)))) x h l = absurd (omega arith)

others : (k j x : ℕ) → k < 4 → j < 4 → (j ≡ k → ⊥) → (j ≡ after 4 k → 0 < x) → x < 65536 → mark k (quad_place j x 0) ≡ aim k → ⊥
others zero zero x h l m n z e = absurd (m refl)
others zero (suc zero) x h l m n z e = omega (arith, n refl)
others zero (suc (suc zero)) x h l m n z e = omega arith
others zero (suc (suc (suc zero))) x h l m n z e = omega arith
others zero (suc (suc (suc (suc j)))) x h l m n z e = absurd (omega arith)
others (suc zero) zero x h l m n z e = omega arith
others (suc zero) (suc zero) x h l m n z e = absurd (m refl)
others (suc zero) (suc (suc zero)) x h l m n z e = omega (arith, n refl)
others (suc zero) (suc (suc (suc zero))) x h l m n z e = omega arith
others (suc zero) (suc (suc (suc (suc j)))) x h l m n z e = absurd (omega arith)
others (suc (suc zero)) zero x h l m n z e = omega arith
others (suc (suc zero)) (suc zero) x h l m n z e = omega arith
others (suc (suc zero)) (suc (suc zero)) x h l m n z e = absurd (m refl)
others (suc (suc zero)) (suc (suc (suc zero))) x h l m n z e = omega (arith, n refl)
others (suc (suc zero)) (suc (suc (suc (suc j)))) x h l m n z e = absurd (omega arith)
others (suc (suc (suc zero))) zero x h l m n z e = omega (arith, n refl)
others (suc (suc (suc zero))) (suc zero) x h l m n z e = omega arith
others (suc (suc (suc zero))) (suc (suc zero)) x h l m n z e = omega arith
others (suc (suc (suc zero))) (suc (suc (suc zero))) x h l m n z e = absurd (m refl)
others (suc (suc (suc zero))) (suc (suc (suc (suc j)))) x h l m n z e = absurd (omega arith)
others (suc (suc (suc (suc k)))) j x h l m n z e = absurd (omega arith)

-- an inner point lies on no edge
inner : (k : ℕ) (p : Point) → 0 < inset p → mark k p ≡ aim k → ⊥
inner zero p h e = omega arith
inner (suc zero) p h e = omega arith
inner (suc (suc zero)) p h e = omega arith
inner (suc (suc (suc k))) p h e = omega arith

sees : (k : ℕ) → k < 4 → Sees quad_place inset 4 k (after 4 k) (mark k) (aim k) (quad_edge k)
sees k h = record {
  on_is = on_is k;
  own = λ x l. (own k x h l).0;
  at = λ x l. (own k x h l).1;
  others = λ j x. others k j x h;
  inside = inner k;
}

module _ (e0 e1 e2 e3 : Run) (g0 : GoodRun e0) (g1 : GoodRun e1) (g2 : GoodRun e2) (g3 : GoodRun e3) where
  -- for an outline with inner points
  pub quad_outline_places : (rest : List Point) → All (λ p. 0 < inset p) rest
      → EdgesPlaced quad_edge (ring quad_place 0 (e0 ∷ e1 ∷ e2 ∷ e3 ∷ []) 0 ++ rest) 0 (e0 ∷ e1 ∷ e2 ∷ e3 ∷ [])
  quad_outline_places rest deep =
      outline_places square (omega arith) sees rest deep (e0 ∷ e1 ∷ e2 ∷ e3 ∷ []) refl (more g0 (more g1 (more g2 (more g3 none))))

  pub quad_places : (rows columns : Run) → GoodRun rows → GoodRun columns
      → EdgesPlaced quad_edge (quad_patch e0 e1 e2 e3 rows columns) 0 (e0 ∷ e1 ∷ e2 ∷ e3 ∷ [])
  quad_places rows columns gr gc = quad_outline_places _ (inner_deep rows columns gr gc)
