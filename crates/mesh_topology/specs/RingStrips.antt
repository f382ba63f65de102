-- The triangles of a triangle patch as document 01 lists them, strip by strip. Assumes nothing.
use Rattle.std.specs.Prelude.{ℕ, suc, ◌+◌, ◌/◌, ◌%◌, cond, List, [], ◌∷◌, ◌++◌, eqb}
use Rattle.strip.specs.declared.triangle.Triangle.{Triangle}
use Rattle.strip.specs.Strips.{strip}
use Rattle.mesh_topology.specs.Quad.{joined_lists}
use Rattle.mesh_topology.specs.RingVertices.{ring_segments, ring_first, vertex_on}

-- strip k between ring j and ring j + 1: from edge k of ring j to edge k of ring j + 1
abbrev pub ring_strip : (ℕ → ℕ) → ℕ → ℕ → ℕ → List Triangle
ring_strip c n j k = strip (vertex_on c n j k) (vertex_on c n (suc j) k) (ring_segments c n j k) (ring_segments c n (suc j) k)

-- the three strips between rings j and j + 1, in walk order
abbrev pub strips_between : (ℕ → ℕ) → ℕ → ℕ → List Triangle
strips_between c n j = joined_lists (ring_strip c n j) 3

-- the triangle of the innermost ring, for odd n
abbrev pub innermost : ℕ → ℕ → List Triangle
innermost first n = cond (eqb (n % 2) 1) (record { a = first; b = first + 1; c = first + 2 } ∷ []) []

-- the strips from the outer ring inwards, then the triangle of the innermost ring
abbrev pub ring_strips : (ℕ → ℕ) → ℕ → List Triangle
ring_strips c n = joined_lists (strips_between c n) (n / 2) ++ innermost (ring_first c n (n / 2)) n
