-- `is_discarded` of a subdivision agrees with `discards` of the patch. Assumes nothing.
use Prim.Native.Nat.{ℕ}
use mathlib.Core.Path.{◌≡◌, refl}
use mathlib.Core.Bool.{Bool, true, false, cond}
use mathlib.Core.List.{[], ◌∷◌}
use Rattle.level.specs.declared.Spacing.{Spacing}
use Rattle.patch.specs.declared.kinds.Patch.{Patch}
use Rattle.patch.specs.declared.kinds.Patch.TheVariants.{Triangles, Quads, Isolines}
use Rattle.patch.specs.declared.subdivision.Subdivision.{Subdivision}
use Rattle.patch.specs.declared.subdivision.Subdivision.TheVariants.{Discarded}
use Rattle.patch.specs.Every.{every}
use Rattle.patch.specs.Subdivide.{single, discards, cut, subdivision, is_discarded}

-- neither of two subdivisions is discarded
either : (t : Bool) (c d : Subdivision) → is_discarded c ≡ false → is_discarded d ≡ false → is_discarded (cond t c d) ≡ false
either true c d h k = h
either false c d h k = k

cut_draws : (s : Spacing) (t : ℕ) (p : Patch) → is_discarded (cut s t p) ≡ false
cut_draws s t (Triangles a b c i) = either (every (single s t) (a ∷ b ∷ c ∷ i ∷ [])) _ _ refl refl
cut_draws s t (Quads a b c d i j) = either (every (single s t) (a ∷ b ∷ c ∷ d ∷ i ∷ j ∷ [])) _ _ refl refl
cut_draws s t (Isolines a b) = refl

pub discarded_cut : (s : Spacing) (t : ℕ) (p : Patch) → is_discarded (subdivision s t p) ≡ discards p
unfolding subdivision
discarded_cut s t p = go (discards p)
  where
    go : (b : Bool) → is_discarded (cond b Discarded (cut s t p)) ≡ b
    go true = refl
    go false = cut_draws s t p
