-- With odd spacing and the top level 2, every triangle or quad patch that is not discarded is plain. Assumes nothing.
use mathlib.Core.Path.{◌≡◌, refl}
use mathlib.Core.Bool.{true, false}
use mathlib.Core.List.{List, [], ◌∷◌}
use borrow.Author.Tests.{eq-eqb}
use lib.Ieee.{Float}
use Rattle.level.specs.declared.Spacing.TheVariants.{FractionalOdd}
use Rattle.level.proofs.Valid.{odd_top_two}
use Rattle.patch.specs.declared.kinds.Patch.TheVariants.{Triangles, Quads}
use Rattle.patch.specs.declared.subdivision.Subdivision.TheVariants.{PlainTriangle, PlainQuad}
use Rattle.patch.specs.Every.{every}
use Rattle.patch.specs.Subdivide.{single, discards, subdivision}

-- each level gives one segment
all_single : (xs : List Float) → every (single FractionalOdd 2) xs ≡ true
unfolding every
all_single [] = refl
all_single (x ∷ xs) = rw (eq-eqb _ 1 (odd_top_two x), all_single xs)

-- so a patch that is not discarded is plain
pub plain_triangle : (a b c i : Float) → discards (Triangles a b c i) ≡ false → subdivision FractionalOdd 2 (Triangles a b c i) ≡ PlainTriangle
unfolding subdivision
plain_triangle a b c i h = rw (h, all_single (a ∷ b ∷ c ∷ i ∷ []))

pub plain_quad_lem : (a b c d i j : Float) → discards (Quads a b c d i j) ≡ false → subdivision FractionalOdd 2 (Quads a b c d i j) ≡ PlainQuad
unfolding subdivision
plain_quad_lem a b c d i j h = rw (h, all_single (a ∷ b ∷ c ∷ d ∷ i ∷ j ∷ []))
