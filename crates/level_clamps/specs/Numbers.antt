-- The numbers by which answers say where levels lie. Assumes nothing.
use Rattle.std.specs.Prelude.{ℕ, List, [], ◌∷◌}
use Rattle.level.specs.declared.Clamp.{Clamp}
use Rattle.level.specs.declared.Clamp.TheVariants.{Below, Inside, Above}
use Rattle.level_clamps.specs.declared.Clamps.{Clamps}
use Rattle.level_clamps.specs.declared.Clamps.TheVariants.{Triangles, Quads, Isolines}

-- the number of each case; 0 is kept for a level that does not count
abbrev pub clamp_number : Clamp → ℕ
clamp_number Below = 1
clamp_number Inside = 2
clamp_number Above = 3

-- six numbers in the order of a job record: four outer levels, two inner levels
abbrev pub clamp_numbers : Clamps → List ℕ
clamp_numbers (Triangles a b c i) = clamp_number a ∷ clamp_number b ∷ clamp_number c ∷ 0 ∷ clamp_number i ∷ 0 ∷ []
clamp_numbers (Quads a b c d i j) = clamp_number a ∷ clamp_number b ∷ clamp_number c ∷ clamp_number d ∷ clamp_number i ∷ clamp_number j ∷ []
clamp_numbers (Isolines a b) = clamp_number a ∷ clamp_number b ∷ 0 ∷ 0 ∷ 0 ∷ 0 ∷ []
