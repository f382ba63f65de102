-- The right verdict, as the searches find it; the theorem `verdict_told` gives its number and values. Assumes nothing.
use Rattle.std.specs.Prelude.{Ok, Err}
use Prim.Native.Nat.{ℕ}
use mathlib.Core.Bool.{cond}
use mathlib.Core.List.{List}
use Rattle.level.specs.Top.{is_top}
use Rattle.patch.specs.declared.kinds.Patch.{Patch}
use Rattle.patch.specs.declared.settings.Settings.{Settings}
use Rattle.patch.specs.Subdivide.{discards}
use Rattle.patch.specs.Turn.{turn_asked}
use Rattle.patch_mesh.specs.Demand.{outline_of}
use Rattle.check_verdict.specs.Faults.{Verdict}
use Rattle.check_verdict.specs.declared.fault.Fault.TheVariants.{BadTop, Isolines, Dots, ShouldBeDiscarded}
use Rattle.check_verdict.specs.Faults.{mesh_fault}
use Rattle.check_soundness.specs.Checks.{is_isolines, is_triangles, is_empty}

-- the fault of a mesh for a patch that is not discarded
unfoldable pub patch_fault : Settings → Patch → List ℕ → List ℕ → Verdict
patch_fault set p pw iw = mesh_fault (is_triangles p) (turn_asked set) (outline_of set p) pw iw

-- the verdict: a bad top level first, then isolines, dots and a patch that should be discarded, then the faults of the mesh
unfoldable pub verdict : Settings → Patch → List ℕ → List ℕ → Verdict
verdict set p pw iw =
    cond (is_top set.top)
    (cond (is_isolines p) (Err Isolines)
    (cond set.point_mode (Err Dots)
    (cond (discards p) (cond (is_empty pw iw) (Ok tt) (Err ShouldBeDiscarded)) (patch_fault set p pw iw)))) (Err BadTop)
