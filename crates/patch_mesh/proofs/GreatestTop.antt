-- With the top level 64 all is as it was before top levels could be chosen: the earlier promises, without a hypothesis on the
-- top level. Assumes nothing.
use Prim.Native.Nat.{ℕ, ◌≤◌, ◌<◌}
use mathlib.Core.Path.{◌≡◌, sym, subst, ◌∙◌}
use mathlib.Core.Bool.{false}
use lib.ListN.{length}
use Rattle.level.specs.declared.Spacing.{Spacing}
use Rattle.level.specs.Top.{Top}
use Rattle.level.proofs.Top.{top_64}
use Rattle.patch.specs.declared.kinds.Patch.{Patch}
use Rattle.patch.specs.declared.settings.Settings.{Settings}
use Rattle.patch.specs.Subdivide.{outer_levels, discards, subdivision, subdivision_of}
use Rattle.mesh_geometry.specs.Seam.{places}
use Rattle.patch_mesh.specs.Points.{points}
use Rattle.patch_mesh.specs.Primitives.{index_words}
use Rattle.patch_mesh.specs.Demand.{Surface, outer_level, edges, Demand}
use Rattle.patch_mesh.proofs.Sizes.{points_at_most, indices_at_most}
use Rattle.patch_mesh.proofs.Demand.{demand}
use Rattle.patch_mesh.proofs.Seams.{same_seams}

-- 64 is a top level
greatest : {t : ℕ} → t ≡ 64 → Top t
greatest e = subst Top (sym e) top_64

pub demand_64 : (set : Settings) (p : Patch) → set.top ≡ 64 → discards p ≡ false
    → Demand set p (points (subdivision_of set p)) (index_words set (subdivision_of set p))
demand_64 set p e = demand set (greatest e) p

-- the places of an outer edge depend on its spacing and its own level alone
pub same_seams_64 : (set set' : Settings) (p p' : Patch) → set.top ≡ 64 → set'.top ≡ 64 → discards p ≡ false → discards p' ≡ false
    → Surface p → Surface p' → (k k' : ℕ) → k < length (outer_levels p) → k' < length (outer_levels p')
    → set.spacing ≡ set'.spacing → outer_level p k ≡ outer_level p' k'
    → places (edges p k) (points (subdivision_of set p)) ≡ places (edges p' k') (points (subdivision_of set' p'))
same_seams_64 set set' p p' e e' d d' f f' k k' h h' s l =
    same_seams set set' (greatest e) (greatest e') p p' d d' f f' k k' h h' s (e ∙ sym e') l

pub points_64 : (s : Spacing) (p : Patch) → length (points (subdivision s 64 p)) ≤ 4225
points_64 s p = points_at_most s 64 top_64 p

pub indices_64 : (set : Settings) (p : Patch) → set.top ≡ 64 → length (index_words set (subdivision_of set p)) ≤ 24576
indices_64 set p e = indices_at_most set (greatest e) p
