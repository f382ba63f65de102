-- The test of two triangles holds exactly if they are equal up to rotation, and this relation is transitive. Assumes nothing.
use mathlib.Core.Path.{◌≡◌, refl, sym, ap, ◌∙◌}
use mathlib.Core.Bool.{Bool, true, false, ◌&&◌, ◌||◌, true≢false}
use mathlib.Core.Logic.{◌⊎◌, inl, inr}
use Rattle.check_searches.specs.Points.{same_point}
use Rattle.check_searches.proofs.Equal.{same_is, is_same}
use Rattle.mesh_geometry.specs.Cover.{Face}
use Rattle.compare_differences.specs.Meshes.{same_corners, rotated, same_face}
use Rattle.compare_sameness.specs.Same.{Rotation}

all_three : (x y z : Bool) → (x && y && z) ≡ true → (x ≡ true) × (y ≡ true) × (z ≡ true)
all_three true true z h = (refl, refl, h)
all_three true false z h = absurd (true≢false (sym h))
all_three false y z h = absurd (true≢false (sym h))

corners_are : (f g : Face) → same_corners f g ≡ true → f ≡ g
corners_are f g h =
    let w = all_three (same_point f.p g.p) (same_point f.q g.q) (same_point f.r g.r) h in
    λ i. record { p = same_is f.p g.p w.0 i; q = same_is f.q g.q w.1 i; r = same_is f.r g.r w.2 i }

are_corners : (f g : Face) → f ≡ g → same_corners f g ≡ true
are_corners f g e = rw (is_same f.p g.p (ap (λ (h : Face). h.p) e), is_same f.q g.q (ap (λ (h : Face). h.q) e), is_same f.r g.r (ap (λ (h : Face). h.r) e))

which_of : (x y z : Bool) → (x || y || z) ≡ true → (x ≡ true) ⊎ ((y ≡ true) ⊎ (z ≡ true))
which_of true y z h = inl refl
which_of false true z h = inr (inl refl)
which_of false false z h = inr (inr h)

second : (x z : Bool) → (x || true || z) ≡ true
second true z = refl
second false z = refl

third : (x y : Bool) → (x || y || true) ≡ true
third true y = refl
third false true = refl
third false false = refl

pub face_is : (f g : Face) → same_face f g ≡ true → Rotation f g
face_is f g h = go (which_of (same_corners f g) (same_corners f (rotated g)) (same_corners f (rotated (rotated g))) h)
  where
    go : (same_corners f g ≡ true) ⊎ ((same_corners f (rotated g) ≡ true) ⊎ (same_corners f (rotated (rotated g)) ≡ true)) → Rotation f g
    go (inl e) = inl (corners_are f g e)
    go (inr (inl e)) = inr (inl (corners_are f (rotated g) e))
    go (inr (inr e)) = inr (inr (corners_are f (rotated (rotated g)) e))

pub is_face : (f g : Face) → Rotation f g → same_face f g ≡ true
is_face f g (inl e) = rw (are_corners f g e)
is_face f g (inr (inl e)) = ap (λ (b : Bool). same_corners f g || b || same_corners f (rotated (rotated g))) (are_corners f (rotated g) e) ∙ second (same_corners f g) _
is_face f g (inr (inr e)) = ap (λ (b : Bool). same_corners f g || same_corners f (rotated g) || b) (are_corners f (rotated (rotated g)) e) ∙ third (same_corners f g) _

pub rotation_joins : (f g h : Face) → Rotation f g → Rotation g h → Rotation f h
rotation_joins f g h (inl e) (inl d) = inl (e ∙ d)
rotation_joins f g h (inl e) (inr (inl d)) = inr (inl (e ∙ d))
rotation_joins f g h (inl e) (inr (inr d)) = inr (inr (e ∙ d))
rotation_joins f g h (inr (inl e)) (inl d) = inr (inl (e ∙ ap rotated d))
rotation_joins f g h (inr (inl e)) (inr (inl d)) = inr (inr (e ∙ ap rotated d))
rotation_joins f g h (inr (inl e)) (inr (inr d)) = inl (e ∙ ap rotated d)
rotation_joins f g h (inr (inr e)) (inl d) = inr (inr (e ∙ ap (λ (k : Face). rotated (rotated k)) d))
rotation_joins f g h (inr (inr e)) (inr (inl d)) = inl (e ∙ ap (λ (k : Face). rotated (rotated k)) d)
rotation_joins f g h (inr (inr e)) (inr (inr d)) = inr (inl (e ∙ ap (λ (k : Face). rotated (rotated k)) d))
