-- Partners of points, and flags. Assumes nothing.
use Rattle.std.specs.Prelude.{ℕ, ◌*◌, ◌/◌, ◌≤◌, ◌<◌, ◌≡◌, Bool, true, false, not, ◌&&◌, List, length, get_or}
use Rattle.mesh_geometry.specs.Faces.{at}
use Rattle.mesh_geometry.specs.Words.{read_points, read_triangles}
use Rattle.half_edge_chains.specs.Links.{Linked}
use Rattle.check_searches.specs.Points.{same_point}
use Rattle.compare_differences.specs.Lacking.{among, lacks}
use Rattle.compare_differences.specs.Meshes.{DistinctAndNumbered, point_row, face_row, same_face}
use Rattle.compare_differences.specs.Found.{PointFound}

-- the mesh fits into the large tables
pub record ManySides (pw iw : List ℕ) : Type 0 where
  pub points : length pw ≤ 24576
  pub indices : length iw ≤ 25344

-- the mesh can be compared, and heads and links are the table of its sides
pub record SideTable (pw iw heads links : List ℕ) : Type 0 where
  pub good : DistinctAndNumbered pw iw
  pub linked : Linked (read_triangles iw) (length iw / 3 * 3) heads links
  pub fits : length pw / 3 ≤ length heads
  pub few : length pw / 3 ≤ 8192

-- the first n entries of ms are the partners of the first n points of pw: the number of an equal point of ow, or the number of its points
pub record Partners (pw ow : List ℕ) (n : ℕ) (ms : List ℕ) : Type 0 where
  pub each : (k : ℕ) → k < n → PointFound (read_points ow) (length ow / 3) (at (read_points pw) k) (get_or ms k 0)

-- the same for all points
pub record Partnered (pw ow ms : List ℕ) : Type 0 where
  pub room : length pw / 3 ≤ length ms
  pub all : Partners pw ow (length pw / 3) ms

-- whether the other mesh lacks triangle k
abbrev pub no_same_face : List ℕ → List ℕ → List ℕ → List ℕ → ℕ → Bool
no_same_face pw iw ow jw k = not (among same_face (face_row ow jw) (face_row ow jw).count ((face_row pw iw).entry k))

-- whether no earlier triangle of the same mesh is triangle k
abbrev pub is_first : List ℕ → List ℕ → ℕ → Bool
is_first pw iw k = not (among same_face (face_row pw iw) k ((face_row pw iw).entry k))

-- the first n flags are there and are set
pub record AllSet (n : ℕ) (fs : List Bool) : Type 0 where
  pub room : n ≤ length fs
  pub each : (k : ℕ) → k < n → get_or fs k false ≡ true

-- each of the first n flags that is set and passes the test stays set, and the others of them are cleared
pub record Narrowed (t : ℕ → Bool) (n : ℕ) (fs gs : List Bool) : Type 0 where
  pub size : length gs ≡ length fs
  pub each : (k : ℕ) → k < n → get_or gs k false ≡ (get_or fs k false && t k)
  pub rest : (k : ℕ) → n ≤ k → get_or gs k false ≡ get_or fs k false

-- whether flag k is set
abbrev pub is_set : List Bool → ℕ → Bool
is_set fs k = get_or fs k false

-- flag k is set for each of the first n numbers k that passes the test, and not for the others of them
pub record Flagged (t : ℕ → Bool) (n : ℕ) (fs : List Bool) : Type 0 where
  pub room : n ≤ length fs
  pub each : (k : ℕ) → k < n → get_or fs k false ≡ t k

-- the flags of all points: whether the other mesh lacks the point
abbrev pub PointFlags : List ℕ → List ℕ → List Bool → Type 0
PointFlags pw ow fs = Flagged (lacks same_point (point_row pw) (point_row ow)) (length pw / 3) fs

-- the same for all triangles
abbrev pub FaceFlags : List ℕ → List ℕ → List ℕ → List ℕ → List Bool → Type 0
FaceFlags pw iw ow jw fs = Flagged (lacks same_face (face_row pw iw) (face_row ow jw)) (length iw / 3) fs

-- the flags of all points and triangles of a mesh
pub record MeshFlags (pw iw ow jw : List ℕ) (points faces : List Bool) : Type 0 where
  pub points_told : PointFlags pw ow points
  pub faces_told : FaceFlags pw iw ow jw faces
