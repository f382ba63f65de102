-- A mesh that is judged, and what it is judged by. Assumes nothing.
use Rattle.std.specs.Prelude.{ℕ, Bool, List}
use Rattle.strip.specs.declared.triangle.Triangle.{Triangle}
use Rattle.mesh_geometry.specs.declared.Point.{Point}
use Rattle.mesh_geometry.specs.Words.{read_points, read_triangles}

-- `positive` is the orientation asked for, `outline` the points of the patch's outline in walk order
pub record JudgedMesh : Type 0 where
  pub positive : Bool
  pub outline : List Point
  pub points : List Point
  pub triangles : List Triangle

-- the mesh that point words and index words hold
abbrev pub judged : Bool → List Point → List ℕ → List ℕ → JudgedMesh
judged positive outline pw iw = record { positive = positive; outline = outline; points = read_points pw; triangles = read_triangles iw }
