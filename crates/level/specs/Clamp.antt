-- The range of levels of each spacing, clamping a level to it, and where a level lies. Assumes nothing.
use Rattle.std.specs.Prelude.{ℕ, false, cond, pos, T, Float}
use Rattle.std.specs.Float.{fin, binary32}
use Rattle.std.specs.Float.Ieee.{of_int, lt, le}
use Rattle.level.specs.declared.Spacing.{Spacing}
use Rattle.level.specs.declared.Spacing.TheVariants.{Equal, FractionalEven, FractionalOdd}
use Rattle.level.specs.declared.Clamp.{Clamp}
use Rattle.level.specs.declared.Clamp.TheVariants.{Below, Inside, Above}
use Rattle.level.specs.Top.{most_segments}

-- the least level of a spacing: 1, 2 or 1
abbrev pub lowest : Spacing → Float
lowest Equal = fin false 1 (pos 0)
lowest FractionalEven = fin false 1 (pos 1)
lowest FractionalOdd = fin false 1 (pos 0)

-- the greatest level of a spacing under the top level t: t, t or t - 1, as an `f32`
abbrev pub highest : Spacing → ℕ → Float
highest s t = of_int binary32 (pos (most_segments s t))

-- x clamped to lo .. hi; a NaN fails both comparisons and gives lo
abbrev pub clamped : Float → Float → Float → Float
clamped lo hi x = cond (le lo x) (cond (lt hi x) hi x) lo

-- where x lies: below lo .. hi, inside it (ends included) or above it; a NaN fails both comparisons and lies below
abbrev pub side_of : Float → Float → Float → Clamp
side_of lo hi x = cond (le lo x) (cond (lt hi x) Above Inside) Below

-- a level clamped to its spacing's range, for the top level t
abbrev pub clamped_level : Spacing → ℕ → Float → Float
clamped_level s t x = clamped (lowest s) (highest s t) x

-- where a level lies relative to the range of its spacing; the level is clamped unless it lies inside
unfoldable pub clamp_of : Spacing → ℕ → Float → Clamp
clamp_of s t x = side_of (lowest s) (highest s t) x

-- x is a number from lo to hi
pub record InRange (lo hi x : Float) : Type 0 where
  pub least : T (le lo x)
  pub most : T (le x hi)

-- x is a number from 1 to 64; every spacing's range lies in there
abbrev pub From1To64 : Float → Type 0
From1To64 x = InRange (fin false 1 (pos 0)) (fin false 1 (pos 6)) x
