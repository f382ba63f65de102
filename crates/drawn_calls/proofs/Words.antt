-- Whichever call drew them, the words are those of the patch: the law that all theorems on drawn calls use. Assumes nothing.
use Prim.Native.Nat.{ℕ, ◌*◌}
use mathlib.Core.Path.{◌≡◌, refl, ap, ◌∙◌}
use mathlib.Core.Bool.{false}
use mathlib.Core.List.{List}
use native.Mathlib.Omega.{arith}
use lib.Ieee.{Float}
use lib.ListN.{get_or, take}
use Rattle.level.specs.Top.{Top}
use Rattle.patch.specs.Subdivide.{discards, subdivision}
use Rattle.patch_mesh.specs.Points.{points}
use Rattle.mesh_geometry.specs.Words.{read_points}
use Rattle.mesh_geometry.proofs.ReadBack.{read_points_lem}
use Rattle.job_fields.specs.Settings.{choices, AllBelow}
use Rattle.std.proofs.Common.{Ok}
use Rattle.answer_codes.specs.AnswerCode.{AnswerCode}
use Rattle.tessellate.specs.Draws.{DrewPoints, DrewIndices, point_words, connection_words}
use Rattle.tessellate.proofs.Together.{points_drawn, point_words_drawn, indices_drawn}
use Rattle.draw_floats.proofs.Together.{as_points, as_indices}
use Rattle.call_answers.specs.Replies.{unknown_setting, bad_top}
use Rattle.call_inputs.specs.Inputs.{patch_in, settings_in}
use Rattle.call_inputs.specs.Asked.{known}
use Rattle.call_inputs.proofs.Known.{known_cases}
use Rattle.draw_exports.proofs.Together.{points_call, indices_call}
use Rattle.float_exports.proofs.Together.{told_counts, called_drew}
use Rattle.share_calls.proofs.OneCall.{called_all, called_point_words, called_index_words, called_known}
use Rattle.third_demand.proofs.AllPoints.{AllPoints}
use Rattle.drawn_calls.specs.Written.{CallDrew, CallConnected}
use Rattle.drawn_calls.specs.Written as written

-- a call that answers 0 has settings that are all in range
zero_known : (bs : List ℕ) (t : AnswerCode) → 0 ≡ (known bs bad_top unknown_setting t).number → AllBelow choices bs 0
zero_known bs t =
    known_cases bs bad_top unknown_setting t (λ (x : AnswerCode). 0 ≡ x.number → AllBelow choices bs 0) (λ h e. absurd (omega (arith, e))) (λ k h f e. absurd (omega (arith, e))) (λ h below e. below)

-- the settings are known and the patch is drawn; ws are the words that it has
pub record Words (bs : List ℕ) (xs : List Float) (ws right : List ℕ) : Type 0 where
  pub known : AllBelow choices bs 0
  pub top : Top (settings_in bs).top
  pub drawn : discards (patch_in bs xs) ≡ false
  pub are : ws ≡ right

module _ (bs : List ℕ) (xs : List Float) where
  points_of_lem : {v v' : List ℕ} (P : ℕ) → AllBelow choices bs 0 → DrewPoints (settings_in bs) (patch_in bs xs) v v' (Ok P)
      → Words bs xs (take (3 * P) v') (point_words (settings_in bs) (patch_in bs xs))
  points_of_lem P below d =
      let w = points_drawn (settings_in bs) (patch_in bs xs) (Ok P) d refl in
      record { known = below; top = w.0; drawn = w.1; are = point_words_drawn (settings_in bs) (patch_in bs xs) (Ok P) d refl }

  indices_of_lem : {i i' : List ℕ} (I : ℕ) → AllBelow choices bs 0 → DrewIndices (settings_in bs) (patch_in bs xs) i i' (Ok I)
      → Words bs xs (take I i') (connection_words (settings_in bs) (patch_in bs xs))
  indices_of_lem I below d =
      let w = indices_drawn (settings_in bs) (patch_in bs xs) (Ok I) d refl in
      record { known = below; top = w.0; drawn = w.1; are = w.2 }

  pub drew_words : {pw : List ℕ} → CallDrew bs xs pw → Words bs xs pw (point_words (settings_in bs) (patch_in bs xs))
  drew_words (written.points v v' c' d) =
      points_of_lem (get_or c' 0 0) (zero_known bs _ d.says.number) (points_call bs xs d)
  drew_words (written.CallDrew.with_floats before after c' d) =
      points_of_lem (get_or c' 0 0) (zero_known bs _ d.says.number)
      (as_points (settings_in bs) (patch_in bs xs) (told_counts c') (called_drew bs xs d) refl)
  drew_words (written.CallDrew.shared d before after c' h) =
      let a = called_all bs xs d h in
      record { known = called_known bs xs d h; top = a.top; drawn = a.drawn; are = called_point_words bs xs d h }

  pub connected_words : {iw : List ℕ} → CallConnected bs xs iw → Words bs xs iw (connection_words (settings_in bs) (patch_in bs xs))
  connected_words (written.indices i i' c' d) =
      indices_of_lem (get_or c' 0 0) (zero_known bs _ d.says.number) (indices_call bs xs d)
  connected_words (written.CallConnected.with_floats before after c' d) =
      indices_of_lem (get_or c' 1 0) (zero_known bs _ d.says.number)
      (as_indices (settings_in bs) (patch_in bs xs) (told_counts c') (called_drew bs xs d) refl)
  connected_words (written.CallConnected.shared d before after c' h) =
      let a = called_all bs xs d h in
      record { known = called_known bs xs d h; top = a.top; drawn = a.drawn; are = called_index_words bs xs d h }

  -- all points of the patch
  pub drew_all : {pw : List ℕ} → CallDrew bs xs pw → AllPoints (settings_in bs) (patch_in bs xs) (read_points pw)
  drew_all d =
      let w = drew_words d in
      record { top = w.top; drawn = w.drawn; are = ap read_points w.are ∙ read_points_lem (points (subdivision (settings_in bs).spacing (settings_in bs).top (patch_in bs xs))) }
