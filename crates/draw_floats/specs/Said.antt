-- How a float relates to its whole-number coordinate. Assumes nothing.
use Rattle.std.specs.Prelude.{ℕ, Float}
use Rattle.patch.specs.declared.kinds.Patch.{Patch}
use Rattle.patch.specs.declared.kinds.Patch.TheVariants.{Triangles, Quads, Isolines}
use Rattle.coordinate.specs.Coordinate.{Exact, NearFloat}

-- quads and isolines: f is exactly x / 65,536; triangles: f is a whole number of units of 2 ^ -41, near x / 196,608
abbrev pub FloatOf : Patch → ℕ → Float → Type 0
FloatOf (Triangles a b c i) x f = NearFloat x f
FloatOf (Quads a b c d i j) x f = Exact x f
FloatOf (Isolines a b) x f = Exact x f
