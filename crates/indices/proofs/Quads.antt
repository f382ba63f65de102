-- The words of a quad patch: a frame of four strips, then the cells. Assumes nothing.
use Prim.Native.Nat.{ℕ, ◌+◌, ◌-◌, ◌*◌}
use mathlib.Core.Path.{◌≡◌}
use mathlib.Core.Bool.{Bool}
use mathlib.Core.List.{List, ◌++◌}
use native.Mathlib.Nat.{zero-add}
use native.Mathlib.Omega.{arith}
use lib.ListN.{length, length-append}
use Rattle.strip.specs.Triangles.{indices}
use Rattle.strip.proofs.Strips.{strip_length, indices_length, indices_append}
use Rattle.mesh_topology.specs.Ring.{ring_at}
use Rattle.mesh_topology.specs.Band.{band_from, band}
use Rattle.mesh_topology.specs.Quad.{grid_at, cells, grid_edges, quad}

-- the words of the frame
abbrev pub frame_words : Bool → ℕ → ℕ → ℕ → ℕ → ℕ → ℕ → ℕ → List ℕ
frame_words positive c0 c1 c2 c3 start m n = indices positive (band (ring_at 0 (c0 + c1 + c2 + c3)) (grid_edges (grid_at start (n - 1)) (m - 2) (n - 2) c0 c1 c2 c3))

pub frame_length : (positive : Bool) (c0 c1 c2 c3 start m n : ℕ)
    → length (frame_words positive c0 c1 c2 c3 start m n) ≡ 3 * (c0 + c1 + c2 + c3 + 2 * (m - 2) + 2 * (n - 2))
unfolding band_from
frame_length positive c0 c1 c2 c3 start m n =
    let triangles = band (ring_at 0 (c0 + c1 + c2 + c3)) (grid_edges (grid_at start (n - 1)) (m - 2) (n - 2) c0 c1 c2 c3) in
    let many : length triangles ≡ c0 + c1 + c2 + c3 + 2 * (m - 2) + 2 * (n - 2) = simp (length-append, strip_length) (omega arith) in
    omega (arith, indices_length positive triangles)

-- the frame, then the cells
pub quad_words : (positive : Bool) (c0 c1 c2 c3 m n : ℕ)
    → indices positive (quad 0 c0 c1 c2 c3 m n)
    ≡ frame_words positive c0 c1 c2 c3 (c0 + c1 + c2 + c3) m n ++ indices positive (cells (grid_at (c0 + c1 + c2 + c3) (n - 1)) (m - 2) (n - 2))
unfolding quad
quad_words positive c0 c1 c2 c3 m n =
    rw (zero-add (c0 + c1 + c2 + c3))
    (indices_append positive (band (ring_at 0 (c0 + c1 + c2 + c3)) (grid_edges (grid_at (c0 + c1 + c2 + c3) (n - 1)) (m - 2) (n - 2) c0 c1 c2 c3))
    (cells (grid_at (c0 + c1 + c2 + c3) (n - 1)) (m - 2) (n - 2)))
