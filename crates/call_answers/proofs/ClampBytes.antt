-- The bytes for a measured patch's levels. Assumes nothing.
use Prim.Native.Nat.{ℕ}
use mathlib.Core.Path.{◌≡◌, refl}
use mathlib.Core.List.{◌∷◌}
use Rattle.level_clamps.specs.declared.Clamps.{Clamps}
use Rattle.level_clamps.specs.declared.Clamps.TheVariants.{Triangles, Quads, Isolines}
use Rattle.level_clamps.specs.Numbers.{clamp_numbers}
use Rattle.call_answers.specs.Clamps.{clamp_bytes}

-- there are six bytes
pub six_numbers : (p i : ℕ) (c : Clamps) → clamp_numbers c ≡ clamp_bytes (p ∷ i ∷ clamp_numbers c)
six_numbers p i (Triangles a b c d) = refl
six_numbers p i (Quads a b c d e f) = refl
six_numbers p i (Isolines a b) = refl
