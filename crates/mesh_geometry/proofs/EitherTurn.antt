-- A triangle that holds a spot has the orientation asked for; so exactly one triangle of a covered patch has a spot inside,
-- whatever its orientation. Assumes nothing.
use Prim.Native.Nat.{ℕ}
use mathlib.Core.Bool.{Bool, true, false}
use mathlib.Core.Logic.{inl, inr}
use mathlib.Core.List.{List}
use native.Mathlib.Omega.{arith}
use Rattle.mesh_geometry.specs.declared.Point.{Point}
use Rattle.mesh_geometry.specs.Cover.{Face, twice_area, HasSign, Cover}
use Rattle.mesh_geometry.specs.Held.{Spot, Holds, face, HeldOnce}
use Rattle.mesh_geometry.specs.EitherTurn.{HasInside, InsideOnce}
use Rattle.mesh_geometry.proofs.Sign.{holds_left, turned_left, left_turned}

-- the signed areas to the three sides add up to that of the triangle
pub holds_turned : (b : Bool) (t : Face) (s : Spot) → Holds b t s → HasSign b (twice_area t)
holds_turned b t s h = left_turned b t (let l = holds_left b t s h in omega arith)

-- a triangle does not have both orientations
one_turn : (t : Face) → HasSign true (twice_area t) → HasSign false (twice_area t) → ⊥
one_turn t h k = omega (arith, turned_left true t h, turned_left false t k)

inside_held : (b : Bool) (t : Face) (s : Spot) → HasSign b (twice_area t) → HasInside t s → Holds b t s
inside_held true t s h (inl k) = k
inside_held true t s h (inr k) = absurd (one_turn t h (holds_turned false t s k))
inside_held false t s h (inl k) = absurd (one_turn t (holds_turned true t s k) h)
inside_held false t s h (inr k) = k

held_inside : (b : Bool) (t : Face) (s : Spot) → Holds b t s → HasInside t s
held_inside true t s h = inl h
held_inside false t s h = inr h

-- by `Cover`'s field `turned`, no triangle of the other orientation holds the spot
pub inside_once : {b : Bool} {area : ℕ} {outline points : List Point} {faces : List Face} → Cover b area outline points faces
    → (s : Spot) → HeldOnce b faces s → InsideOnce faces s
inside_once {b} {faces = faces} cover s h = record {
  number = h.number;
  within = h.within;
  inside = held_inside b (face faces h.number) s h.holds;
  only = λ k l m. h.only k l (inside_held b (face faces k) s (cover.turned k l) m);
}
