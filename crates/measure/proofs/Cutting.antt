-- What a patch's cut says about the patch.
-- Assumes nothing.
use Prim.Native.Nat.{ℕ, ◌≤◌}
use mathlib.Core.Path.{◌≡◌, refl}
use mathlib.Core.Bool.{Bool, true, false, cond}
use native.Mathlib.Omega.{arith}
use lib.ListN.{length}
use Rattle.level.specs.Top.{Top, is_top}
use Rattle.patch.specs.declared.kinds.Patch.{Patch}
use Rattle.patch.specs.declared.settings.Settings.{Settings}
use Rattle.patch.specs.declared.subdivision.Subdivision.{Subdivision}
use Rattle.patch.specs.Subdivide.{discards, subdivision_of}
use Rattle.patch_mesh.specs.Points.{points}
use Rattle.patch_mesh.specs.Counts.{point_count, count_in}
use Rattle.patch_mesh.specs.Valid.{ValidCut}
use Rattle.std.proofs.Common.{Result, Ok, Err}
use Rattle.measure.specs.declared.cut.NotDrawn.{NotDrawn}
use Rattle.measure.specs.declared.cut.NotDrawn.TheVariants.{BadTop, Discarded}
use Rattle.measure.specs.Sizes.{points_of, indices_of, size_code, measure_verdict}
use Rattle.measure.specs.Cuts.{cut_of}
use Rattle.measure.proofs.Counted.{valid, few, many_points, many_indices}
use Rattle.level.proofs.Top.{top_as}

-- a patch that is cut
pub record Into (set : Settings) (p : Patch) (c : Subdivision) : Type 0 where
  pub top : is_top set.top ≡ true
  pub drawn : discards p ≡ false
  pub cut : c ≡ subdivision_of set p

module _ (set : Settings) (p : Patch) where
  -- ---- cutting, return by return
  pub cut_bad : is_top set.top ≡ false → Err BadTop ≡ cut_of set p
  unfolding cut_of
  cut_bad e = rw e

  pub cut_discarded : is_top set.top ≡ true → discards p ≡ true → Err Discarded ≡ cut_of set p
  unfolding cut_of
  cut_discarded e d = rw (e, d)

  pub cut_ready : {c : Subdivision} → Into set p c → Ok c ≡ cut_of set p
  unfolding cut_of
  cut_ready i = rw (i.top, i.drawn, i.cut)

  -- ---- what follows
  abbrev found : Bool → Bool → Result Subdivision NotDrawn
  found t d = cond t (cond d (Err Discarded) (Ok (subdivision_of set p))) (Err BadTop)

  pub bad_top_lem : Err BadTop ≡ cut_of set p → is_top set.top ≡ false
  unfolding cut_of
  bad_top_lem e = go (is_top set.top) (discards p) e
    where
      go : (t d : Bool) → Err BadTop ≡ found t d → t ≡ false
      go false d h = refl
      go true true h = cc
      go true false h = cc

  pub is_discarded_lem : Err Discarded ≡ cut_of set p → (is_top set.top ≡ true) × (discards p ≡ true)
  unfolding cut_of
  is_discarded_lem e = go (is_top set.top) (discards p) e
    where
      go : (t d : Bool) → Err Discarded ≡ found t d → (t ≡ true) × (d ≡ true)
      go true true h = (refl, refl)
      go true false h = (refl, cc)
      go false d h = let z : ◌≡◌ {A = ℕ} 0 1 = cc in absurd (omega arith)

  -- a patch that is not cut is measured by the reason
  pub measured_refused : (e : NotDrawn) → Err e ≡ cut_of set p → size_code (Err e) ≡ measure_verdict set p
  unfolding measure_verdict
  measured_refused BadTop e = rw (bad_top_lem e)
  measured_refused Discarded e = let d = is_discarded_lem e in rw (d.0, d.1)

  module _ {c : Subdivision} (is : Ok c ≡ cut_of set p) where
    pub is_cut : Into set p c
    unfolding cut_of
    is_cut = go (is_top set.top) (discards p) refl refl is
      where
        go : (t d : Bool) → is_top set.top ≡ t → discards p ≡ d → Ok c ≡ found t d → Into set p c
        go true false f g h = record { top = f; drawn = g; cut = cc }
        go true true f g h = let z : ◌≡◌ {A = ℕ} 0 1 = cc in absurd (omega arith)
        go false d f g h = let z : ◌≡◌ {A = ℕ} 0 1 = cc in absurd (omega arith)

    pub cut_top : Top set.top
    cut_top = top_as set.top is_cut.top

    pub cut_valid : ValidCut c
    cut_valid = valid set cut_top p c is_cut.cut

    pub cut_few : length (points c) ≤ 65535
    cut_few = few set cut_top p c is_cut.cut

    pub cut_points : {n : ℕ} → n ≡ point_count c → n ≡ points_of set p
    cut_points h = many_points set cut_top p c is_cut.cut h

    pub cut_indices : {n : ℕ} → n ≡ count_in set.point_mode c → n ≡ indices_of set p
    cut_indices h = many_indices set cut_top p c is_cut.cut h
