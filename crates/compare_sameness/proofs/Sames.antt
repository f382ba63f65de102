-- There are no differences exactly if both meshes have the same points and triangles; a mesh does not differ from itself;
-- exchanging the meshes exchanges the sides. Assumes nothing.
use Prim.Native.Nat.{ℕ, ◌-◌}
use mathlib.Core.Path.{◌≡◌, refl, ap, ◌∙◌}
use mathlib.Core.Logic.{inl}
use mathlib.Core.List.{List, [], ◌∷◌, ◌++◌, map}
use native.Mathlib.Omega.{arith}
use lib.ListN.{length}
use Rattle.mesh_geometry.specs.declared.Point.{Point}
use Rattle.check_searches.specs.Points.{same_point}
use Rattle.check_searches.proofs.Equal.{same_is, is_same}
use Rattle.compare_differences.specs.Lacking.{lacking}
use Rattle.compare_differences.specs.Meshes.{Mesh, same_face}
use Rattle.compare_differences.specs.Differences.{each, left_points, right_points, left_faces, right_faces, differences}
use Rattle.compare_sameness.specs.Same.{SameMesh, exchanged}
use Rattle.compare_lists.proofs.Parts.{parts_count}
use Rattle.compare_sameness.proofs.Lists.{none_within, within_none}
use Rattle.compare_sameness.proofs.Rotations.{face_is, is_face, rotation_joins}

points_join : (p q r : Point) → p ≡ q → q ≡ r → p ≡ r
points_join p q r e h = e ∙ h

pub empty : {A : Type 0} (xs : List A) → length xs ≡ 0 → xs ≡ []
empty [] e = refl
empty (x ∷ xs) e = absurd (omega arith)

-- ---- equal meshes have no differences
pub same_none : (l r : Mesh) → SameMesh l r → differences l r ≡ []
same_none l r s = empty (differences l r)
    (parts_count l r ∙ rw (
      within_none same_point ◌≡◌ same_is is_same points_join l.points r.points s.left_points,
      within_none same_point ◌≡◌ same_is is_same points_join r.points l.points s.right_points,
      within_none same_face _ face_is is_face rotation_joins l.faces r.faces s.left_faces,
      within_none same_face _ face_is is_face rotation_joins r.faces l.faces s.right_faces,
    ))

-- ---- meshes without differences are equal
pub none_same : (l r : Mesh) → differences l r ≡ [] → SameMesh l r
none_same l r e =
    let n = ap length e in
    let h = parts_count l r in
    record {
      left_points = none_within same_point ◌≡◌ same_is is_same points_join l.points r.points (empty _ (omega arith));
      right_points = none_within same_point ◌≡◌ same_is is_same points_join r.points l.points (empty _ (omega arith));
      left_faces = none_within same_face _ face_is is_face rotation_joins l.faces r.faces (empty _ (omega arith));
      right_faces = none_within same_face _ face_is is_face rotation_joins r.faces l.faces (empty _ (omega arith));
    }

-- ---- a mesh and itself
pub self_none : (m : Mesh) → differences m m ≡ []
self_none m = same_none m m (record {
  left_points = λ k l. (k, l, refl);
  right_points = λ k l. (k, l, refl);
  left_faces = λ k l. (k, l, inl refl);
  right_faces = λ k l. (k, l, inl refl);
})

-- ---- exchanging the meshes: each part comes with its side exchanged
each_exchanged : (kind side : ℕ) (ks : List ℕ) → each kind (1 - side) ks ≡ map exchanged (each kind side ks)
each_exchanged kind side [] = refl
each_exchanged kind side (k ∷ ks) = ap (λ ds. record { kind = kind; side = 1 - side; number = k } ∷ ds) (each_exchanged kind side ks)

pub sides_exchanged : (l r : Mesh) → differences r l
    ≡ map exchanged (right_points l r) ++ map exchanged (left_points l r) ++ map exchanged (right_faces l r) ++ map exchanged (left_faces l r)
unfolding differences
sides_exchanged l r = rw (
  ← each_exchanged 0 1 (lacking same_point r.points l.points),
  ← each_exchanged 0 0 (lacking same_point l.points r.points),
  ← each_exchanged 1 1 (lacking same_face r.faces l.faces),
  ← each_exchanged 1 0 (lacking same_face l.faces r.faces),
)
