-- The triangles of a quad patch cover it. Assumes nothing.
use Prim.Native.Nat.{ℕ, ◌+◌, ◌-◌, ◌*◌, ◌≤◌}
use mathlib.Core.Path.{◌≡◌, refl, ◌∙◌}
use mathlib.Core.Bool.{Bool}
use mathlib.Core.List.{List, [], ◌∷◌}
use native.Mathlib.Omega.{arith}
use native.Mathlib.Nat.{zero-add}
use lib.ListN.{length, length-append}
use Rattle.mesh_topology.specs.Ring.{ring_at}
use Rattle.mesh_topology.specs.Closes.{Closes}
use Rattle.mesh_topology.specs.Quad.{grid_at, quad, quad_points}
use Rattle.mesh_topology.proofs.Quad.{quad_closes, quad_stokes}
use Rattle.mesh_geometry.specs.declared.Point.{Point}
use Rattle.mesh_geometry.specs.Cover.{Cover}
use Rattle.mesh_geometry.specs.Faces.{at, faces_of}
use Rattle.mesh_geometry.specs.Edge.{Run, GoodRun, ring}
use Rattle.mesh_geometry.specs.QuadPoints.{quad_place, grid, inner, quad_patch, quad_area}
use Rattle.mesh_geometry.proofs.Lists.{All, none, more}
use Rattle.mesh_geometry.proofs.Edge.{good_some}
use Rattle.mesh_geometry.proofs.StripTurns.{Turns}
use Rattle.mesh_geometry.proofs.Ring.{past, ring_length}
use Rattle.mesh_geometry.proofs.Outline.{Parts, outline_lines, patch_covered}
use Rattle.mesh_geometry.proofs.Grid.{grid_length, grid_at_lem}
use Rattle.mesh_geometry.proofs.QuadPlace.{square}
use Rattle.mesh_geometry.proofs.QuadGrid.{inner_deep, inner_distinct}
use Rattle.mesh_geometry.proofs.QuadTurns.{quad_turns}

-- the number of points
pub quad_patch_length : (e0 e1 e2 e3 rows columns : Run)
    → length (quad_patch e0 e1 e2 e3 rows columns) ≡ quad_points e0.c e1.c e2.c e3.c rows.c columns.c
quad_patch_length e0 e1 e2 e3 rows columns = simp (length-append, ring_length, grid_length) (omega arith)

module _ (e0 e1 e2 e3 rows columns : Run) (g0 : GoodRun e0) (g1 : GoodRun e1) (g2 : GoodRun e2) (g3 : GoodRun e3)
    (gr : GoodRun rows) (gc : GoodRun columns) (hr : 2 ≤ rows.c) (hc : 2 ≤ columns.c) where
  abbrev es : List Run
  es = e0 ∷ e1 ∷ e2 ∷ e3 ∷ []

  abbrev total : ℕ
  total = e0.c + e1.c + e2.c + e3.c

  abbrev ps : List Point
  ps = quad_patch e0 e1 e2 e3 rows columns

  made : Parts square total es (grid (inner rows columns) (rows.c - 1) (columns.c - 1))
  made = record {
    each = refl;
    total = omega arith;
    good = more g0 (more g1 (more g2 (more g3 none)));
    deep = inner_deep rows columns gr gc;
    distinct = inner_distinct rows columns gr gc;
  }

  inner_at : (r c : ℕ) → r ≤ rows.c - 2 → c ≤ columns.c - 2 → at ps (grid_at (0 + total) (columns.c - 1) r c) ≡ inner rows columns r c
  unfolding grid_at
  inner_at r c u v =
      let e : 0 + total + r * (columns.c - 1) + c ≡ total + (r * (columns.c - 1) + c) = omega arith in
      rw e
      (past (ring quad_place 0 es 0) _ total (r * (columns.c - 1) + c) (omega (arith, ring_length quad_place 0 es 0))
      ∙ grid_at_lem (inner rows columns) (rows.c - 1) (columns.c - 1) r c (omega arith) (omega arith))

  turns : All (Turns (at ps)) (quad 0 e0.c e1.c e2.c e3.c rows.c columns.c)
  unfolding quad
  turns = quad_turns (at ps) rows columns gr gc hr hc _ inner_at e0 e1 e2 e3 (ring_at 0 total) (outline_lines square made)

  closes : Closes 0 (length ps) total (quad 0 e0.c e1.c e2.c e3.c rows.c columns.c)
  closes =
      rw (quad_patch_length, ← (zero-add (quad_points e0.c e1.c e2.c e3.c rows.c columns.c)))
      (quad_closes 0 e0.c e1.c e2.c e3.c rows.c columns.c (good_some g0) (good_some g1) (good_some g2) (good_some g3) hr hc)

  pub quad_covers : (positive : Bool)
      → Cover positive quad_area (ring quad_place 0 (e0 ∷ e1 ∷ e2 ∷ e3 ∷ []) 0) (quad_patch e0 e1 e2 e3 rows columns)
      (faces_of positive (quad_patch e0 e1 e2 e3 rows columns) (quad 0 e0.c e1.c e2.c e3.c rows.c columns.c))
  quad_covers =
      patch_covered square made _ turns closes
      (quad_stokes 0 e0.c e1.c e2.c e3.c rows.c columns.c (good_some g0) (good_some g1) (good_some g2) (good_some g3) hr hc)
