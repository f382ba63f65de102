-- A quad patch whose places are in rows: its outline, and its inner points. Assumes nothing.
use Prim.Native.Nat.{ℕ, ◌+◌, ◌-◌, ◌*◌, ◌≤◌}
use mathlib.Core.Path.{◌≡◌, refl, ap}
use mathlib.Core.List.{List, [], ◌∷◌}
use native.Mathlib.Omega.{arith}
use lib.ListN.{length}
use Rattle.buffer.specs.Over.{Wrote}
use Rattle.mesh_geometry.specs.Edge.{ring}
use Rattle.mesh_geometry.specs.QuadPoints.{quad_place, grid, inner}
use Rattle.mesh_geometry.specs.Words.{vertex_words}
use Rattle.mesh_geometry.proofs.Grid.{grid_length}
use Rattle.mesh_geometry.proofs.Shape.{same_point}
use Rattle.vertices.specs.Rows.{listed, whole_edge, ClearOfEnds, GoodRow}
use Rattle.vertices.specs.Grids.{crossing, grid_points}
use Rattle.quad_point_rows.specs.Parts.{quad_outline, quad_inside}
use Rattle.vertices.proofs.Parts.{wrote_same}
use Rattle.vertices.proofs.Rows.{grid_same, none, more, ring_same, front, front_size, front_same, front_clear}
use Rattle.vertices.proofs.Middle.{middle, middle_length, middle_at}

-- the inner points of a quad patch
inner_are : (rows columns : List ℕ)
    → grid_points (middle rows) (middle columns) ≡ grid (inner (whole_edge rows) (whole_edge columns)) (length rows - 1 - 1) (length columns - 1 - 1)
inner_are rows columns =
    rw (middle_length rows, middle_length columns)
    (grid_same (crossing (middle rows) (middle columns)) (inner (whole_edge rows) (whole_edge columns)) (length rows - 1 - 1) (length columns - 1 - 1)
    (λ r c l k. same_point _ _ (middle_at columns c k) (middle_at rows r l) refl))

-- ---- the outline, written from rows without their ends
module _ {e0 e1 e2 e3 : List ℕ} (good : GoodRow e0 × GoodRow e1 × GoodRow e2 × GoodRow e3) (xs : List ℕ) (at : ℕ)
    (room : at + 3 * length (quad_outline (whole_edge e0) (whole_edge e1) (whole_edge e2) (whole_edge e3)) ≤ length xs) where
  outline_same : ring quad_place 0 (listed (front e0) ∷ listed (front e1) ∷ listed (front e2) ∷ listed (front e3) ∷ []) 0 ≡ quad_outline (whole_edge e0) (whole_edge e1) (whole_edge e2) (whole_edge e3)
  outline_same = ring_same quad_place 0 0 (more (front_same e0 _ (front_size e0)) (more (front_same e1 _ (front_size e1))
      (more (front_same e2 _ (front_size e2)) (more (front_same e3 _ (front_size e3)) none))))

  pub edges_ready : (ClearOfEnds 0 (listed (front e0)) × ClearOfEnds 0 (listed (front e1)) × ClearOfEnds 0 (listed (front e2)) × ClearOfEnds 0 (listed (front e3)))
      × (at + 3 * length (ring quad_place 0 (listed (front e0) ∷ listed (front e1) ∷ listed (front e2) ∷ listed (front e3) ∷ []) 0) ≤ length xs)
  edges_ready = (
    (
      front_clear e0 _ (front_size e0) good.0,
      front_clear e1 _ (front_size e1) good.1,
      front_clear e2 _ (front_size e2) good.2,
      front_clear e3 _
          (front_size e3) good.3,
    ),
    omega (arith, ap length outline_same, room),
  )

  pub outline_written : {xs' : List ℕ} {w : ℕ} → Wrote xs at (vertex_words (ring quad_place 0 (listed (front e0) ∷ listed (front e1) ∷ listed (front e2) ∷ listed (front e3) ∷ []) 0)) xs' w
      → Wrote xs at (vertex_words (quad_outline (whole_edge e0) (whole_edge e1) (whole_edge e2) (whole_edge e3))) xs' w
  outline_written = wrote_same outline_same

-- ---- the inside, written from the middles of two rows
module _ (rows columns xs : List ℕ) (at : ℕ) (room : at + 3 * length (quad_inside (whole_edge rows) (whole_edge columns)) ≤ length xs) where
  pub inside_ready : at + 3 * (length (middle rows) * length (middle columns)) ≤ length xs
  inside_ready = omega (arith, room, ap length (inner_are rows columns), grid_length (crossing (middle rows) (middle columns)) (length (middle rows)) (length (middle columns)))

  pub inside_written : {xs' : List ℕ} {w : ℕ} → Wrote xs at (vertex_words (grid_points (middle rows) (middle columns))) xs' w
      → Wrote xs at (vertex_words (quad_inside (whole_edge rows) (whole_edge columns))) xs' w
  inside_written = wrote_same (inner_are rows columns)
