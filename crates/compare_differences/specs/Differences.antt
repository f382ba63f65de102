-- The differences between two meshes, and their words. Assumes nothing.
use Rattle.std.specs.Prelude.{ℕ, Bool, cond, List, [], ◌∷◌, ◌++◌, map}
use Rattle.mesh_geometry.specs.declared.Point.{Point}
use Rattle.mesh_geometry.specs.Cover.{Face}
use Rattle.check_searches.specs.Points.{same_point}
use Rattle.compare_differences.specs.Lacking.{Row, lacking}
use Rattle.compare_differences.specs.Meshes.{Mesh, same_face}

-- a point or triangle that only one of the meshes has
pub record Difference : Type 0 where
  pub kind : ℕ  -- 0 point, 1 triangle
  pub side : ℕ  -- 0 left, 1 right
  pub number : ℕ  -- the number of the point or triangle

-- the differences of one kind on one side, with these numbers
abbrev pub each : ℕ → ℕ → List ℕ → List Difference
each kind side ks = map (λ k. record { kind = kind; side = side; number = k }) ks

-- the points of one mesh that the other lacks
abbrev pub point_differences : ℕ → Row Point → Row Point → List Difference
point_differences side ps qs = each 0 side (lacking same_point ps qs)

-- the triangles of one mesh that the other lacks
abbrev pub face_differences : ℕ → Row Face → Row Face → List Difference
face_differences side fs gs = each 1 side (lacking same_face fs gs)

-- the four parts of the differences
abbrev pub left_points : Mesh → Mesh → List Difference
left_points l r = point_differences 0 l.points r.points

abbrev pub right_points : Mesh → Mesh → List Difference
right_points l r = point_differences 1 r.points l.points

abbrev pub left_faces : Mesh → Mesh → List Difference
left_faces l r = face_differences 0 l.faces r.faces

abbrev pub right_faces : Mesh → Mesh → List Difference
right_faces l r = face_differences 1 r.faces l.faces

-- all differences: points before triangles, the left side before the right
unfoldable pub differences : Mesh → Mesh → List Difference
differences l r = left_points l r ++ right_points l r ++ left_faces l r ++ right_faces l r

-- the words of differences, three each
unfoldable pub words : List Difference → List ℕ
words [] = []
words (d ∷ ds) = d.kind ∷ d.side ∷ d.number ∷ words ds

-- the words of point or triangle k if it is a difference, else no words
abbrev pub words_if : ℕ → ℕ → Bool → ℕ → List ℕ
words_if kind side is k = cond is (kind ∷ side ∷ k ∷ []) []
