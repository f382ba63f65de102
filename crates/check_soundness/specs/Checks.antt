-- What is tested of the patch and of the lists before the faults. Assumes nothing.
use Rattle.std.specs.Prelude.{ℕ, Bool, true, false, ◌&&◌, List, length, eqb}
use Rattle.patch.specs.declared.kinds.Patch.{Patch}
use Rattle.patch.specs.declared.kinds.Patch.TheVariants as patches

-- whether the patch is an isoline patch
abbrev pub is_isolines : Patch → Bool
is_isolines (patches.Triangles a b c i) = false
is_isolines (patches.Quads a b c d i j) = false
is_isolines (patches.Isolines a b) = true

-- whether the patch is a triangle patch
abbrev pub is_triangles : Patch → Bool
is_triangles (patches.Triangles a b c i) = true
is_triangles (patches.Quads a b c d i j) = false
is_triangles (patches.Isolines a b) = false

-- whether both lists are empty
abbrev pub is_empty : List ℕ → List ℕ → Bool
is_empty pw iw = eqb (length pw) 0 && eqb (length iw) 0
