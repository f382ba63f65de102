-- What the code finds out about a patch, by the definitions: whether it is discarded, and how many points and indices it has.
-- Assumes nothing.
use Prim.Native.Nat.{ℕ, ◌≤◌}
use mathlib.Core.Path.{◌≡◌, sym, ap, ◌∙◌}
use mathlib.Core.Bool.{Bool}
use native.Mathlib.Omega.{arith}
use lib.ListN.{length}
use Rattle.level.specs.Top.{Top}
use Rattle.patch.specs.declared.kinds.Patch.{Patch}
use Rattle.patch.specs.declared.settings.Settings.{Settings}
use Rattle.patch.specs.declared.subdivision.Subdivision.{Subdivision}
use Rattle.patch.specs.Subdivide.{discards, subdivision_of, is_discarded}
use Rattle.patch.proofs.Discarded.{discarded_cut}
use Rattle.patch_mesh.specs.Points.{points}
use Rattle.patch_mesh.specs.Counts.{point_count, count_in}
use Rattle.patch_mesh.specs.Valid.{ValidCut}
use Rattle.patch_mesh.proofs.Counts.{point_count_lem, index_count_lem}
use Rattle.patch_mesh.proofs.Sizes.{points_at_most}
use Rattle.patch_mesh.proofs.Valid.{cut_valid}
use Rattle.measure.specs.Sizes.{points_of, indices_of}
use Rattle.patch_writer.proofs.Cuts.{valid_as}

module _ (set : Settings) (top : Top set.top) (p : Patch) (c : Subdivision) (is : c ≡ subdivision_of set p) where
  -- every edge has an n and L that an edge can have
  pub valid : ValidCut c
  valid = valid_as (cut_valid set.spacing set.top top p) (sym is)

  -- the test for a discarded patch
  pub flag : {t b : Bool} → t ≡ is_discarded c → t ≡ b → discards p ≡ b
  flag f h = sym (discarded_cut set.spacing set.top p) ∙ ap is_discarded (sym is) ∙ sym f ∙ h

  -- every vertex has a number of 16 bits
  pub few : length (points c) ≤ 65535
  few = rw is (omega (arith, points_at_most set.spacing set.top top p))

  -- the counts
  pub many_points : {n : ℕ} → n ≡ point_count c → n ≡ points_of set p
  many_points e = e ∙ ap point_count is ∙ sym (point_count_lem (subdivision_of set p) (cut_valid set.spacing set.top top p))

  pub many_indices : {n : ℕ} → n ≡ count_in set.point_mode c → n ≡ indices_of set p
  many_indices e =
      e ∙ ap (count_in set.point_mode) is ∙ sym (index_count_lem set (subdivision_of set p) (cut_valid set.spacing set.top top p))
