-- Which meshes are accepted, and what they satisfy. Assumes nothing.
use Rattle.std.specs.Prelude.{Ok}
use Prim.Native.Nat.{ℕ}
use mathlib.Core.Path.{◌≡◌, refl, sym, ◌∙◌}
use mathlib.Core.Bool.{true≢false, false}
use mathlib.Core.Logic.{◌↔◌, ⊎_elim}
use mathlib.Core.List.{List}
use Rattle.patch.specs.declared.kinds.Patch.{Patch}
use Rattle.patch.specs.declared.settings.Settings.{Settings}
use Rattle.patch.specs.Subdivide.{discards}
use Rattle.check_soundness.specs.Sound.{SoundWords}
use Rattle.check_soundness.proofs.Patches.{patch_sound_covers, patch_sound_once}
use Rattle.check_soundness.specs.Means.{Kept, Accepts, CheckedExactly}
use Rattle.check_soundness.specs.Covered.{Covered}
use Rattle.check_soundness.proofs.Verdicts.{answers, checked}

module _ (set : Settings) (p : Patch) (pw iw : List ℕ) where
  -- a mesh is accepted exactly if it has no fault
  pub accepted_exactly : CheckedExactly set p pw iw (Ok tt) ↔ Accepts set p pw iw
  accepted_exactly = (λ c. (c.exactly (Ok tt)).0 refl, λ a. checked set p pw iw (sym (answers set p pw iw (Ok tt) a)))

  sound_covered : Kept set p → SoundWords set p pw iw → Covered set p pw iw
  sound_covered k s = record {
    cover = patch_sound_covers set k.asked.top p k.asked.surface s.mesh;
    once = patch_sound_once set k.asked.top p s.mesh;
  }

  -- a mesh that is accepted for a patch that is not discarded covers it, and exactly one triangle holds each spot inside that lies on no side
  pub accepted_covered : CheckedExactly set p pw iw (Ok tt) → discards p ≡ false → Covered set p pw iw
  accepted_covered c d = ⊎_elim (λ w. absurd (true≢false (sym w.1 ∙ d))) (λ w. sound_covered w.0 w.1) (accepted_exactly.0 c)
