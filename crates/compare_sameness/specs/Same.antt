-- When two meshes have the same points and the same triangles. Assumes nothing.
use Rattle.std.specs.Prelude.{ℕ, ◌-◌, ◌<◌, ◌≡◌, ◌⊎◌}
use Rattle.mesh_geometry.specs.Cover.{Face}
use Rattle.compare_differences.specs.Lacking.{Row}
use Rattle.compare_differences.specs.Meshes.{Mesh, rotated}
use Rattle.compare_differences.specs.Differences.{Difference}

-- the triangles are equal up to rotation
abbrev pub Rotation : Face → Face → Type 0
Rotation f g = (f ≡ g) ⊎ ((f ≡ rotated g) ⊎ (f ≡ rotated (rotated g)))

-- some entry is the same as x
abbrev pub In : {A : Type 0} → (A → A → Type 0) → Row A → A → Type 0
In Same ys x = (i : ℕ) × (i < ys.count) × Same (ys.entry i) x

-- every entry of xs is in ys
abbrev pub AllIn : {A : Type 0} → (A → A → Type 0) → Row A → Row A → Type 0
AllIn Same xs ys = (k : ℕ) → k < xs.count → In Same ys (xs.entry k)

-- both meshes have the same points, by coordinates, and the same triangles, up to rotation
pub record SameMesh (l r : Mesh) : Type 0 where
  pub left_points : AllIn ◌≡◌ l.points r.points
  pub right_points : AllIn ◌≡◌ r.points l.points
  pub left_faces : AllIn Rotation l.faces r.faces
  pub right_faces : AllIn Rotation r.faces l.faces

-- the same difference with its side exchanged
abbrev pub exchanged : Difference → Difference
exchanged d = record { kind = d.kind; side = 1 - d.side; number = d.number }
