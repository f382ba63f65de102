-- Meshes to compare: their points and triangles, and when two are the same. Assumes nothing.
use Rattle.std.specs.Prelude.{ℕ, ◌≡◌, Bool, ◌&&◌, ◌||◌, List, length}
use Rattle.mesh_geometry.specs.declared.Point.{Point}
use Rattle.mesh_geometry.specs.Cover.{Face}
use Rattle.mesh_geometry.specs.Faces.{at, face_of}
use Rattle.mesh_geometry.specs.Words.{read_points, read_triangles}
use Rattle.check_searches.specs.Points.{same_point, first_repeated}
use Rattle.check_searches.specs.Triangles.{triangle_at}
use Rattle.check_searches.specs.Indices.{AllNumbered}
use Rattle.compare_differences.specs.Lacking.{Row}

-- a mesh: its points, and its triangles with points as corners
pub record Mesh : Type 0 where
  pub points : Row Point
  pub faces : Row Face

-- the points that words hold
abbrev pub point_row : List ℕ → Row Point
point_row pw = record { count = length (read_points pw); entry = at (read_points pw) }

-- the triangles that point words and index words hold
abbrev pub face_row : List ℕ → List ℕ → Row Face
face_row pw iw = record { count = length (read_triangles iw); entry = λ k. face_of (at (read_points pw)) (triangle_at (read_triangles iw) k) }

-- the mesh that point words and index words hold
abbrev pub read_mesh : List ℕ → List ℕ → Mesh
read_mesh pw iw = record { points = point_row pw; faces = face_row pw iw }

-- the triangles have equal corners in the same order
abbrev pub same_corners : Face → Face → Bool
same_corners f g = same_point f.p g.p && same_point f.q g.q && same_point f.r g.r

-- the triangle with its second corner first
abbrev pub rotated : Face → Face
rotated f = record { p = f.q; q = f.r; r = f.p }

-- the triangles are the same: equal corners in the same cyclic order
abbrev pub same_face : Face → Face → Bool
same_face f g = same_corners f g || same_corners f (rotated g) || same_corners f (rotated (rotated g))

-- no two points are equal
pub record NoneRepeated (pw : List ℕ) : Type 0 where
  pub is : first_repeated (read_points pw) ≡ length (read_points pw)

-- the mesh can be compared
pub record DistinctAndNumbered (pw iw : List ℕ) : Type 0 where
  pub single : NoneRepeated pw
  pub numbered : AllNumbered (length (read_points pw)) iw
