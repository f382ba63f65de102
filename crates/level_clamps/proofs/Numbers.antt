-- The numbers of a patch's levels determine where each of them lies. Assumes nothing.
use Prim.Native.Nat.{ℕ}
use mathlib.Core.Path.{◌≡◌, refl}
use mathlib.Core.Bool.{false, cond}
use mathlib.Core.List.{List}
use lib.Dec.{eqb}
use lib.ListN.{get_or}
use Rattle.level.specs.declared.Clamp.{Clamp}
use Rattle.level.specs.declared.Clamp.TheVariants.{Below, Inside, Above}
use Rattle.level_clamps.specs.declared.Clamps.{Clamps}
use Rattle.level_clamps.specs.declared.Clamps.TheVariants.{Triangles, Quads, Isolines}
use Rattle.level_clamps.specs.Numbers.{clamp_number, clamp_numbers}

abbrev clamp_at : List ℕ → ℕ → Clamp
clamp_at ns k = cond (eqb (get_or ns k 0) 1) Below (cond (eqb (get_or ns k 0) 2) Inside Above)

-- the third number is 0 for isolines only, and otherwise the fourth is 0 for triangles only
abbrev pub clamps_in : List ℕ → Clamps
clamps_in ns =
    cond (eqb (get_or ns 2 0) 0) (Isolines (clamp_at ns 0) (clamp_at ns 1))
    (cond (eqb (get_or ns 3 0) 0) (Triangles (clamp_at ns 0) (clamp_at ns 1) (clamp_at ns 2) (clamp_at ns 4))
    (Quads (clamp_at ns 0) (clamp_at ns 1) (clamp_at ns 2) (clamp_at ns 3) (clamp_at ns 4) (clamp_at ns 5)))

clamp_back : (c : Clamp) → cond (eqb (clamp_number c) 1) Below (cond (eqb (clamp_number c) 2) Inside Above) ≡ c
clamp_back Below = refl
clamp_back Inside = refl
clamp_back Above = refl

counts : (c : Clamp) → eqb (clamp_number c) 0 ≡ false
counts Below = refl
counts Inside = refl
counts Above = refl

pub clamps_back : (c : Clamps) → clamps_in (clamp_numbers c) ≡ c
clamps_back (Triangles a b c i) = rw (counts c, clamp_back a, clamp_back b, clamp_back c, clamp_back i)
clamps_back (Quads a b c d i j) = rw (counts c, counts d, clamp_back a, clamp_back b, clamp_back c, clamp_back d, clamp_back i, clamp_back j)
clamps_back (Isolines a b) = rw (clamp_back a, clamp_back b)
