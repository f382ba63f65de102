-- The answer that is right after each test of the patch. Assumes nothing.
use Rattle.std.specs.Prelude.{Ok, Err}
use Prim.Native.Nat.{ℕ}
use mathlib.Core.Path.{◌≡◌, sym, ap, ◌∙◌}
use mathlib.Core.Bool.{Bool, true, false, cond}
use mathlib.Core.List.{List}
use Rattle.level.specs.Top.{is_top}
use Rattle.patch.specs.declared.kinds.Patch.{Patch}
use Rattle.patch.specs.declared.settings.Settings.{Settings}
use Rattle.patch.specs.declared.subdivision.Subdivision.{Subdivision}
use Rattle.patch.specs.Subdivide.{discards, subdivision_of, is_discarded}
use Rattle.patch.specs.Turn.{turn_asked}
use Rattle.patch.proofs.Discarded.{discarded_cut}
use Rattle.patch_mesh.specs.Demand.{outline_of}
use Rattle.check_verdict.specs.Faults.{Verdict}
use Rattle.check_verdict.specs.declared.fault.Fault.TheVariants.{Dots, ShouldBeDiscarded}
use Rattle.check_verdict.specs.Faults.{mesh_fault}
use Rattle.check_soundness.specs.Checks.{is_isolines, is_triangles, is_empty}
use Rattle.check_soundness.specs.Means.{CheckedExactly}
use Rattle.check_soundness.proofs.Named.{patch_fault, verdict}
use Rattle.check_soundness.proofs.Verdicts.{checked}

-- the test whether the patch is discarded
pub flag : (set : Settings) (p : Patch) {c : Subdivision} {b y : Bool} → c ≡ subdivision_of set p → b ≡ is_discarded c → b ≡ y
    → discards p ≡ y
flag set p is f h = sym (discarded_cut set.spacing set.top p) ∙ ap is_discarded (sym is) ∙ sym f ∙ h

-- a good top level, and no isoline patch
module _ (set : Settings) (p : Patch) {pw iw : List ℕ} (top : is_top set.top ≡ true) {b : Bool} (lines : b ≡ is_isolines p) (surface : b ≡ false) where
  pub dots : set.point_mode ≡ true → CheckedExactly set p pw iw (Err Dots)
  unfolding verdict
  dots h = checked set p pw iw (rw (top, ← lines, surface, h))

  module _ (filled : set.point_mode ≡ false) where
    pub discarded : discards p ≡ true → {e y : Bool} → e ≡ is_empty pw iw → e ≡ y → CheckedExactly set p pw iw (cond y (Ok tt) (Err ShouldBeDiscarded))
    unfolding verdict
    discarded h f g = checked set p pw iw (rw (top, ← lines, surface, filled, h, ← f, g))

    pub kept : discards p ≡ false → {turn : Bool} {r : Verdict} → turn ≡ turn_asked set → r ≡ mesh_fault (is_triangles p) turn (outline_of set p) pw iw
        → CheckedExactly set p pw iw r
    unfolding verdict patch_fault
    kept h t f = checked set p pw iw (rw (top, ← lines, surface, filled, h, ← t) f)
