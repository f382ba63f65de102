-- Words read back as the points and the triangles that they were written for. Assumes nothing.
use mathlib.Core.Path.{◌≡◌, refl, ap}
use mathlib.Core.Bool.{Bool}
use mathlib.Core.List.{List, [], ◌∷◌, map}
use Rattle.strip.specs.declared.triangle.Triangle.{Triangle}
use Rattle.strip.specs.Triangles.{turned, indices}
use Rattle.mesh_geometry.specs.declared.Point.{Point}
use Rattle.mesh_geometry.specs.Faces.{at, face_of, faces_of, faces_in}
use Rattle.mesh_geometry.specs.Words.{vertex_words, read_points, read_triangles}

pub read_points_lem : (ps : List Point) → read_points (vertex_words ps) ≡ ps
unfolding vertex_words read_points
read_points_lem [] = refl
read_points_lem (p ∷ ps) = ap (λ l. p ∷ l) (read_points_lem ps)

pub read_triangles_lem : (positive : Bool) (ts : List Triangle) → read_triangles (indices positive ts) ≡ map (turned positive) ts
unfolding indices read_triangles
read_triangles_lem positive [] = refl
read_triangles_lem positive (t ∷ ts) = ap (λ l. turned positive t ∷ l) (read_triangles_lem positive ts)

pub read_faces : (positive : Bool) (ps : List Point) (ts : List Triangle) → faces_in ps (indices positive ts) ≡ faces_of positive ps ts
read_faces positive ps ts = ap (map (face_of (at ps))) (read_triangles_lem positive ts)
