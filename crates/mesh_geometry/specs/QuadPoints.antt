-- The points of a quad patch, on a square with sides of 65,536. Assumes nothing.
use Rattle.std.specs.Prelude.{ℕ, zero, suc, ◌-◌, ◌*◌, List, [], ◌∷◌, ◌++◌}
use Rattle.edge.specs.Table.{table}
use Rattle.mesh_geometry.specs.declared.Point.{Point}
use Rattle.mesh_geometry.specs.Edge.{Run, ring}

-- the point x units along edge k and d units inside; the edges go down, right, up and left from (0, 1), and edge 4 is edge 0 again
abbrev pub quad_place : ℕ → ℕ → ℕ → Point
quad_place zero x d = record { u = d; v = 65536 - x; w = 0 }
quad_place (suc zero) x d = record { u = x; v = d; w = 0 }
quad_place (suc (suc zero)) x d = record { u = 65536 - d; v = x; w = 0 }
quad_place (suc (suc (suc zero))) x d = record { u = 65536 - x; v = 65536 - d; w = 0 }
quad_place (suc (suc (suc (suc k)))) x d = quad_place k x d

-- h rows of w points, row after row
unfoldable pub grid : (ℕ → ℕ → Point) → ℕ → ℕ → List Point
grid P zero w = []
grid P (suc h) w = table (P 0) w ++ grid (λ r. P (suc r)) h w

-- the point in row r + 1 and column c + 1 of the inner grid: `rows` gives v, `columns` gives u
abbrev pub inner : Run → Run → ℕ → ℕ → Point
inner rows columns r c = record { u = columns.q (suc c); v = rows.q (suc r); w = 0 }

-- the points of a patch with the outer edges e0 to e3: first the outline, then the inner grid; `rows` is the edge that the
-- first inner level gives (m segments), `columns` that of the second (n)
abbrev pub quad_patch : Run → Run → Run → Run → Run → Run → List Point
quad_patch e0 e1 e2 e3 rows columns =
    ring quad_place 0 (e0 ∷ e1 ∷ e2 ∷ e3 ∷ []) 0 ++ grid (inner rows columns) (rows.c - 1) (columns.c - 1)

-- twice the area of a quad patch
abbrev pub quad_area : ℕ
quad_area = 2 * (65536 * 65536)

-- the points of the plain patch: the four corners, in walk order
abbrev pub quad_corners : List Point
quad_corners =
    record { u = 0; v = 65536; w = 0 } ∷ record { u = 0; v = 0; w = 0 } ∷ record { u = 65536; v = 0; w = 0 }
    ∷ record { u = 65536; v = 65536; w = 0 } ∷ []
