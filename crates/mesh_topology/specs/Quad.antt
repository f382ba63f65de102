-- The triangles of a quad patch by vertex number: a grid of cells, and a band of four strips around it. Assumes nothing.
use Rattle.std.specs.Prelude.{ℕ, zero, suc, ◌+◌, ◌*◌, ◌-◌, List, [], ◌∷◌, ◌++◌}
use Rattle.strip.specs.declared.triangle.Triangle.{Triangle}
use Rattle.mesh_topology.specs.Ring.{ring_at}
use Rattle.mesh_topology.specs.Band.{Edge, band}

-- the vertex in row r and column c of a grid, both counted from 0; a row has w vertices, and the first vertex is `start`
unfoldable pub grid_at : ℕ → ℕ → ℕ → ℕ → ℕ
grid_at start w r c = start + r * w + c

-- the two triangles of the cell between rows r and r + 1 and columns c and c + 1
abbrev pub cell : (ℕ → ℕ → ℕ) → ℕ → ℕ → List Triangle
cell P r c =
    record { a = P r c; b = P r (suc c); c = P (suc r) (suc c) } ∷ record { a = P r c; b = P (suc r) (suc c); c = P (suc r) c } ∷ []

-- the lists L 0 to L (n - 1), joined
unfoldable pub joined_lists : (ℕ → List Triangle) → ℕ → List Triangle
joined_lists L zero = []
joined_lists L (suc n) = joined_lists L n ++ L n

-- a rows of b cells
abbrev pub cells : (ℕ → ℕ → ℕ) → ℕ → ℕ → List Triangle
cells P a b = joined_lists (λ r. joined_lists (cell P r) b) a

-- the edges of the band around the grid, in walk order: down the first column, along the first row, up the last column, back along the last row
abbrev pub grid_edges : (ℕ → ℕ → ℕ) → ℕ → ℕ → ℕ → ℕ → ℕ → ℕ → List Edge
grid_edges P a b c0 c1 c2 c3 =
    record { p = c0; r = a; line = λ k. P (a - k) 0 }
    ∷ record { p = c1; r = b; line = λ k. P 0 k }
    ∷ record { p = c2; r = a; line = λ k. P k b }
    ∷ record { p = c3; r = b; line = λ k. P a (b - k) }
    ∷ []

-- the triangles of a patch whose outer edges have c0 to c3 segments and whose inner levels give m and n: four strips, then the
-- cells. The inner grid has m - 1 by n - 1 vertices, numbered after those of the outline
unfoldable pub quad : ℕ → ℕ → ℕ → ℕ → ℕ → ℕ → ℕ → List Triangle
quad base c0 c1 c2 c3 m n =
    band (ring_at base (c0 + c1 + c2 + c3)) (grid_edges (grid_at (base + (c0 + c1 + c2 + c3)) (n - 1)) (m - 2) (n - 2) c0 c1 c2 c3)
    ++ cells (grid_at (base + (c0 + c1 + c2 + c3)) (n - 1)) (m - 2) (n - 2)

-- the number of vertices
abbrev pub quad_points : ℕ → ℕ → ℕ → ℕ → ℕ → ℕ → ℕ
quad_points c0 c1 c2 c3 m n = c0 + c1 + c2 + c3 + (m - 1) * (n - 1)

-- the number of triangles
abbrev pub quad_count : ℕ → ℕ → ℕ → ℕ → ℕ → ℕ → ℕ
quad_count c0 c1 c2 c3 m n = c0 + c1 + c2 + c3 + 2 * (m - 2) + 2 * (n - 2) + 2 * ((m - 2) * (n - 2))

-- the plain patch: two triangles
abbrev pub plain_quad : ℕ → List Triangle
plain_quad base = record { a = base; b = base + 1; c = base + 2 } ∷ record { a = base; b = base + 2; c = base + 3 } ∷ []
