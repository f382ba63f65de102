-- The faces of a mesh: its triangles with points in place of numbers. Assumes nothing.
use Rattle.std.specs.Prelude.{ℕ, Bool, List, map, get_or}
use Rattle.strip.specs.declared.triangle.Triangle.{Triangle}
use Rattle.strip.specs.Triangles.{turned}
use Rattle.mesh_geometry.specs.declared.Point.{Point}
use Rattle.mesh_geometry.specs.Cover.{Face, missing}
use Rattle.mesh_geometry.specs.Words.{read_triangles}

-- point number k
abbrev pub at : List Point → ℕ → Point
at ps k = get_or ps k missing

-- a triangle with points in place of vertex numbers
abbrev pub face_of : (ℕ → Point) → Triangle → Face
face_of P t = record { p = P t.a; q = P t.b; r = P t.c }

-- the faces of the triangles ts, in the orientation asked for
abbrev pub faces_of : Bool → List Point → List Triangle → List Face
faces_of positive ps ts = map (face_of (at ps)) (map (turned positive) ts)

-- the triangles of index words, with points in place of numbers
abbrev pub faces_in : List Point → List ℕ → List Face
faces_in ps ws = map (face_of (at ps)) (read_triangles ws)
