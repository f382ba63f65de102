-- Where each level of a patch lies: below, inside or above the range of its spacing. Assumes nothing.
use Rattle.std.specs.Prelude.{ℕ}
use Rattle.level.specs.declared.Spacing.{Spacing}
use Rattle.level.specs.declared.Spacing.TheVariants.{Equal}
use Rattle.level.specs.Clamp.{clamp_of}
use Rattle.patch.specs.declared.kinds.Patch.{Patch}
use Rattle.patch.specs.declared.kinds.Patch.TheVariants.{Triangles, Quads, Isolines}
use Rattle.level_clamps.specs.declared.Clamps.{Clamps}
use Rattle.level_clamps.specs.declared.Clamps.TheVariants as told

-- each level is judged alone: whether another level discards the patch, or an inner level is raised, does not matter. The
-- number of isolines always has equal spacing
abbrev pub clamps_of : Spacing → ℕ → Patch → Clamps
clamps_of s t (Triangles a b c i) = told.Triangles (clamp_of s t a) (clamp_of s t b) (clamp_of s t c) (clamp_of s t i)
clamps_of s t (Quads a b c d i j) = told.Quads (clamp_of s t a) (clamp_of s t b) (clamp_of s t c) (clamp_of s t d) (clamp_of s t i) (clamp_of s t j)
clamps_of s t (Isolines a b) = told.Isolines (clamp_of Equal t a) (clamp_of s t b)
