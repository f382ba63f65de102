-- Demand 3 holds for every drawn patch, whatever its levels, settings and top level. Assumes nothing.
use Prim.Native.Nat.{ℕ}
use mathlib.Core.Path.{◌≡◌}
use mathlib.Core.Bool.{false}
use Rattle.level.specs.declared.Spacing.{Spacing}
use Rattle.level.specs.Top.{Top}
use Rattle.patch.specs.declared.kinds.Patch.{Patch}
use Rattle.patch.specs.declared.settings.Settings.{Settings}
use Rattle.patch.specs.Subdivide.{discards, cut, subdivision, subdivision_of}
use Rattle.patch.specs.Turn.{turn_asked}
use Rattle.mesh_geometry.proofs.Lists.{all_at}
use Rattle.patch_mesh.specs.Points.{points}
use Rattle.patch_mesh.specs.Primitives.{index_words}
use Rattle.patch_mesh.specs.Demand.{Demand}
use Rattle.patch_mesh.proofs.Valid.{drawn_valid}
use Rattle.patch_mesh.proofs.Numbered.{indices_below}
use Rattle.patch_mesh.proofs.Covered.{covered}

pub not_discarded : (s : Spacing) (t : ℕ) (p : Patch) → discards p ≡ false → subdivision s t p ≡ cut s t p
unfolding subdivision
not_discarded s t p h = rw h

cut_demand : (set : Settings) → Top set.top → (p : Patch) → Demand set p (points (cut set.spacing set.top p)) (index_words set (cut set.spacing set.top p))
unfolding index_words
cut_demand set top p =
    let s = set.spacing in
    let t = set.top in
    record {
      numbered = λ k h. all_at 0 k h (indices_below set (cut s t p) (drawn_valid s t top p));
      cover = λ f m. rw m ((covered s t top p).cover f (turn_asked set));
      seams = (covered s t top p).seams;
    }

pub demand : (set : Settings) → Top set.top → (p : Patch) → discards p ≡ false
    → Demand set p (points (subdivision_of set p)) (index_words set (subdivision_of set p))
demand set top p h = rw (not_discarded set.spacing set.top p h) (cut_demand set top p)
