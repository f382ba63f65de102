-- How many indices a primitive has. Assumes nothing.
use Rattle.std.specs.Prelude.{ℕ, Bool, true, false}
use Rattle.patch.specs.declared.kinds.Patch.{Patch}
use Rattle.patch.specs.declared.kinds.Patch.TheVariants.{Triangles, Quads, Isolines}

-- a dot has one, a line two, a triangle three
abbrev pub width_of : Bool → Patch → ℕ
width_of true p = 1
width_of false (Triangles a b c i) = 3
width_of false (Quads a b c d i j) = 3
width_of false (Isolines a b) = 2
