-- The triangles of a quad patch as document 01 lists them: strip by strip, then cell by cell. c 0 to c 3 are the segments of
-- the four outer edges, m and n those of the two inner levels. Assumes nothing.
use Rattle.std.specs.Prelude.{ℕ, zero, suc, ◌+◌, ◌-◌, ◌*◌, List, [], ◌∷◌, ◌++◌}
use Rattle.strip.specs.declared.triangle.Triangle.{Triangle}
use Rattle.strip.specs.Strips.{strip}
use Rattle.mesh_topology.specs.Sides.{sum}
use Rattle.mesh_topology.specs.Ring.{ring_at}
use Rattle.mesh_topology.specs.Quad.{joined_lists}

-- the vertex i segments along outer edge k; the end of an edge is the first vertex of the next, and the last edge ends at vertex 0
abbrev pub outline_on : (ℕ → ℕ) → ℕ → ℕ → ℕ
outline_on c k i = ring_at 0 (sum c 4) (sum c k + i)

-- the vertex in row r and column s of the inner grid, both counted from 1; a row has n − 1 vertices, numbered after those of the outline
abbrev pub grid_on : (ℕ → ℕ) → ℕ → ℕ → ℕ → ℕ
grid_on c n r s = sum c 4 + ((r - 1) * (n - 1) + (s - 1))

-- the line of the inner grid nearest to edge k, in the same direction: down column 1, along row 1, up column n − 1, back along row m − 1
abbrev pub nearest_line : (ℕ → ℕ) → ℕ → ℕ → ℕ → ℕ → ℕ
nearest_line c m n zero i = grid_on c n (m - 1 - i) 1
nearest_line c m n (suc zero) i = grid_on c n 1 (1 + i)
nearest_line c m n (suc (suc zero)) i = grid_on c n (1 + i) (n - 1)
nearest_line c m n (suc (suc (suc k))) i = grid_on c n (m - 1) (n - 1 - i)

-- how many segments that line has
abbrev pub nearest_segments : ℕ → ℕ → ℕ → ℕ
nearest_segments m n zero = m - 2
nearest_segments m n (suc zero) = n - 2
nearest_segments m n (suc (suc zero)) = m - 2
nearest_segments m n (suc (suc (suc k))) = n - 2

-- the strip between edge k and its nearest line
abbrev pub grid_strip : (ℕ → ℕ) → ℕ → ℕ → ℕ → List Triangle
grid_strip c m n k = strip (outline_on c k) (nearest_line c m n k) (c k) (nearest_segments m n k)

-- the two triangles of cell (r, s): (r,s), (r,s+1), (r+1,s+1) and (r,s), (r+1,s+1), (r+1,s)
abbrev pub cell_on : (ℕ → ℕ) → ℕ → ℕ → ℕ → List Triangle
cell_on c n r s =
    record { a = grid_on c n r s; b = grid_on c n r (s + 1); c = grid_on c n (r + 1) (s + 1) }
    ∷ record { a = grid_on c n r s; b = grid_on c n (r + 1) (s + 1); c = grid_on c n (r + 1) s }
    ∷ []

-- the cells of rows 1 to m − 2 and columns 1 to n − 2, row by row
abbrev pub cells_on : (ℕ → ℕ) → ℕ → ℕ → List Triangle
cells_on c m n = joined_lists (λ r. joined_lists (λ s. cell_on c n (r + 1) (s + 1)) (n - 2)) (m - 2)

-- four strips in walk order, then the cells
abbrev pub grid_strips : (ℕ → ℕ) → ℕ → ℕ → List Triangle
grid_strips c m n = joined_lists (grid_strip c m n) 4 ++ cells_on c m n
