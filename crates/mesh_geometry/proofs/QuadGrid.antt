-- The inner grid of a quad patch lies inside the outline, and its points are distinct. Assumes nothing.
use Prim.Native.Nat.{suc, ◌-◌, ◌<◌}
use mathlib.Core.Path.{ap}
use native.Mathlib.Omega.{arith}
use Rattle.mesh_geometry.specs.declared.Point.{Point}
use Rattle.mesh_geometry.specs.Edge.{Run, GoodRun}
use Rattle.mesh_geometry.specs.QuadPoints.{grid, inner}
use Rattle.mesh_geometry.proofs.Lists.{All, Distinct}
use Rattle.mesh_geometry.proofs.Edge.{good_span, good_between, span_less}
use Rattle.mesh_geometry.proofs.Grid.{grid_all, grid_distinct}
use Rattle.mesh_geometry.proofs.QuadPlace.{inset}

module _ (rows columns : Run) (gr : GoodRun rows) (gc : GoodRun columns) where
  pub inner_deep : All (λ p. 0 < inset p) (grid (inner rows columns) (rows.c - 1) (columns.c - 1))
  inner_deep = grid_all _ _ _ _ (λ r c u v.
      omega (arith, good_between gr (suc r) (omega arith) (omega arith), good_between gc (suc c) (omega arith) (omega arith)))

  pub inner_distinct : Distinct (grid (inner rows columns) (rows.c - 1) (columns.c - 1))
  inner_distinct =
      grid_distinct _ _ _
      (λ r s c d l m u v e. omega (arith, ap (λ (p : Point). p.v) e, span_less (good_span gr) (suc r) (suc s) (omega arith) (omega arith)))
      (λ r c d u l m e. omega (arith, ap (λ (p : Point). p.u) e, span_less (good_span gc) (suc c) (suc d) (omega arith) (omega arith)))
