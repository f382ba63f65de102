-- The points of a grid whose rows and columns have their places in two lists. Assumes nothing.
use Rattle.std.specs.Prelude.{ℕ, List, [], ◌∷◌, length}
use Rattle.edge.specs.Table.{table}
use Rattle.mesh_geometry.specs.declared.Point.{Point}
use Rattle.mesh_geometry.specs.QuadPoints.{grid}
use Rattle.vertices.specs.Rows.{place_in}

-- the point in row r and column c
abbrev pub crossing : List ℕ → List ℕ → ℕ → ℕ → Point
crossing rows columns r c = record { u = place_in columns c; v = place_in rows r; w = 0 }

-- the points of a row at height v, one per column
abbrev pub row_points : List ℕ → ℕ → List Point
row_points columns v = table (λ c. record { u = place_in columns c; v = v; w = 0 }) (length columns)

-- the points of all rows
abbrev pub grid_points : List ℕ → List ℕ → List Point
grid_points rows columns = grid (crossing rows columns) (length rows) (length columns)

-- the words of points, each with its second coordinate replaced by v
unfoldable pub with_second : ℕ → List ℕ → List ℕ
with_second v [] = []
with_second v (a ∷ []) = a ∷ []
with_second v (a ∷ b ∷ []) = a ∷ b ∷ []
with_second v (a ∷ b ∷ c ∷ ws) = a ∷ v ∷ c ∷ with_second v ws
