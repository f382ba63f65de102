-- The points of every drawn patch, isolines included, are distinct. Assumes nothing.
use Prim.Native.Nat.{ℕ}
use mathlib.Core.Path.{◌≡◌, ap}
use mathlib.Core.Bool.{true, false}
use native.Mathlib.Omega.{arith}
use Rattle.level.specs.declared.Spacing.{Spacing}
use Rattle.level.specs.declared.Spacing.TheVariants.{Equal}
use Rattle.level.specs.Top.{Top}
use Rattle.level.specs.Segments.{segments_of}
use Rattle.level.proofs.Valid.{segments_valid}
use Rattle.patch.specs.declared.kinds.Patch.{Patch}
use Rattle.patch.specs.declared.kinds.Patch.TheVariants.{Triangles, Quads, Isolines}
use Rattle.patch.specs.Subdivide.{discards, cut, subdivision}
use Rattle.mesh_geometry.specs.declared.Point.{Point}
use Rattle.mesh_geometry.specs.Cover.{missing, AllDistinct}
use Rattle.mesh_geometry.specs.Edge.{Run, GoodRun}
use Rattle.mesh_geometry.specs.Segmented.{isoline_points}
use Rattle.mesh_geometry.proofs.Lists.{Distinct, distinct_at}
use Rattle.mesh_geometry.proofs.Edge.{good_span, span_less}
use Rattle.mesh_geometry.proofs.Grid.{grid_distinct}
use Rattle.patch_mesh.specs.Points.{points}
use Rattle.patch_mesh.proofs.Runs.{good_run}
use Rattle.patch_mesh.proofs.Covered.{covered}
use Rattle.patch_mesh.proofs.Demand.{not_discarded}

isolines_distinct : (lines along : Run) → GoodRun lines → GoodRun along → Distinct (isoline_points lines along)
isolines_distinct lines along gl ga =
    grid_distinct _ _ _
    (λ r s c d l m u v e. omega (arith, ap (λ (p : Point). p.v) e, span_less (good_span gl) r s l (omega arith)))
    (λ r c d u l m e. omega (arith, ap (λ (p : Point). p.u) e, span_less (good_span ga) c d l (omega arith)))

module _ (s : Spacing) (t : ℕ) (top : Top t) where
  cut_distinct : (p : Patch) → AllDistinct (points (cut s t p))
  unfolding points
  cut_distinct (Triangles a b c i) = ((covered s t top (Triangles a b c i)).cover tt true).distinct
  cut_distinct (Quads a b c d i j) = ((covered s t top (Quads a b c d i j)).cover tt true).distinct
  cut_distinct (Isolines a b) = λ i j h k.
      distinct_at _ missing i j h k
      (isolines_distinct _ _ (good_run (segments_of Equal t a) (segments_valid Equal t top a)) (good_run (segments_of s t b) (segments_valid s t top b)))

  pub points_distinct : (p : Patch) → discards p ≡ false → AllDistinct (points (subdivision s t p))
  points_distinct p h = rw (not_discarded s t p h) (cut_distinct p)
