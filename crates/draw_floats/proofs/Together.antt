-- The call with floats leaves the same words in the two whole-number lists as the two drawing operations, so all that holds for
-- them holds for it. Assumes nothing.
use Prim.Native.Nat.{ℕ, ◌*◌}
use mathlib.Core.Path.{◌≡◌, refl, sym, ap, ◌∙◌}
use lib.ListN.{take}
use Rattle.patch.specs.declared.kinds.Patch.{Patch}
use Rattle.patch.specs.declared.settings.Settings.{Settings}
use Rattle.mesh_geometry.specs.Words.{read_points}
use Rattle.patch_mesh.specs.Demand.{Demand}
use Rattle.patch_mesh.specs.Inside.{SpotsOnce}
use Rattle.std.proofs.Common.{Result, Ok}
use Rattle.measure.specs.declared.size.DrawnCounts.{DrawnCounts}
use Rattle.answer_codes.specs.AnswerCode.{drew, drew_both}
use Rattle.tessellate.specs.Draws.{DrewPoints, DrewIndices}
use Rattle.tessellate.proofs.Draws.{told_drawn}
use Rattle.answer_codes.proofs.Drew.{written}
use Rattle.tessellate.proofs.Together.{demand_together, once_together}
use Rattle.draw_floats.specs.declared.refusal.FloatsRefusal.{FloatsRefusal}
use Rattle.draw_floats.specs.Answers.{floats_code}
use Rattle.draw_floats.specs.Draws.{MeshLists, DrewWithFloats}
use Rattle.draw_floats.proofs.Verdicts.{Fits, drawn_fits}

module _ (set : Settings) (p : Patch) (r : Result DrawnCounts FloatsRefusal) {before after : MeshLists} {P I : ℕ}
    (d : DrewWithFloats set p before after r) (e : floats_code r ≡ drew_both P I) where
  pub fits : Fits set p before.vertices before.indices before.floats P I
  fits = drawn_fits set p before.vertices before.indices before.floats P I (sym e ∙ d.answer)

  -- the same as drawing the points alone
  pub as_points : DrewPoints set p before.vertices after.vertices (Ok P)
  as_points =
      let right = told_drawn set p 3 _ _ _ fits.top fits.drawn fits.vertices ∙ ap drew (sym fits.point_count_lem) in
      written P refl right (d.vertices ∙ rw e)

  -- the same as drawing the indices alone
  pub as_indices : DrewIndices set p before.indices after.indices (Ok I)
  as_indices =
      let right = told_drawn set p 4 _ _ _ fits.top fits.drawn fits.corners ∙ ap drew (sym fits.index_count_lem) in
      written I refl right (d.indices ∙ rw e)

  -- demand 3 for what the call writes
  pub together_with_floats : Demand set p (read_points (take (3 * P) after.vertices)) (take I after.indices)
  together_with_floats = demand_together set p (Ok P) (Ok I) as_points as_indices refl refl

  -- no spot is covered twice
  pub once_with_floats : SpotsOnce set p (read_points (take (3 * P) after.vertices)) (take I after.indices)
  once_with_floats = once_together set p (Ok P) (Ok I) as_points as_indices refl refl
