-- Dots in point mode, else primitives. Assumes nothing.
use Prim.Native.Nat.{ℕ, ◌≤◌}
use mathlib.Core.Path.{◌≡◌, sym, subst, ◌∙◌}
use mathlib.Core.Bool.{Bool, true, false}
use mathlib.Core.List.{List}
use lib.ListN.{length}
use Rattle.buffer.specs.Over.{Wrote}
use Rattle.mesh_topology.specs.Lines.{dots}
use Rattle.mesh_topology.proofs.Length.{dots_length}
use Rattle.patch.specs.declared.subdivision.Subdivision.{Subdivision}
use Rattle.patch_mesh.specs.Points.{points}
use Rattle.patch_mesh.specs.Primitives.{in_mode}
use Rattle.patch_mesh.specs.Counts.{point_count, count_in}
use Rattle.patch_mesh.specs.Valid.{ValidCut}
use Rattle.patch_mesh.proofs.Counts.{point_count_lem, primitive_count_lem}

module _ (turn : Bool) (c : Subdivision) {mode told : Bool} where
  -- there is room for what the mode gives
  pub mode_room : {n : ℕ} → length (in_mode mode turn c) ≤ n → mode ≡ told → length (in_mode told turn c) ≤ n
  mode_room {n} h e = subst (λ (m : Bool). length (in_mode m turn c) ≤ n) e h

  -- what was written is what the mode gives
  pub in_mode_lem : {xs xs' : List ℕ} {at w : ℕ} → mode ≡ told → Wrote xs at (in_mode told turn c) xs' w → Wrote xs at (in_mode mode turn c) xs' w
  in_mode_lem {xs} {xs'} {at} {w} e h = subst (λ (m : Bool). Wrote xs at (in_mode m turn c) xs' w) (sym e) h

-- a dot for each point counted
pub dots_as : (c : Subdivision) {p : ℕ} {xs xs' : List ℕ} {at w : ℕ} → length (points c) ≡ point_count c → p ≡ point_count c
    → Wrote xs at (dots p) xs' w → Wrote xs at (dots (length (points c))) xs' w
dots_as c {xs = xs} {xs' = xs'} {at = at} {w = w} e f h = subst (λ (k : ℕ). Wrote xs at (dots k) xs' w) (f ∙ sym e) h

-- as many words as were counted
pub mode_count : (mode turn : Bool) (c : Subdivision) → ValidCut c → length (in_mode mode turn c) ≡ count_in mode c
mode_count false turn c v = primitive_count_lem turn c v
mode_count true turn c v = dots_length (length (points c)) ∙ point_count_lem c v
