-- Where each level lies, as six bytes in the order of the levels. Assumes nothing.
use Rattle.std.specs.Prelude.{ℕ, List, [], ◌∷◌, get_or}

-- the bytes that measuring writes: the values of the answer after the two counts, or 0
abbrev pub clamp_bytes : List ℕ → List ℕ
clamp_bytes vs = get_or vs 2 0 ∷ get_or vs 3 0 ∷ get_or vs 4 0 ∷ get_or vs 5 0 ∷ get_or vs 6 0 ∷ get_or vs 7 0 ∷ []

-- the bytes of an answer without clamps
abbrev pub no_clamps : List ℕ
no_clamps = 0 ∷ 0 ∷ 0 ∷ 0 ∷ 0 ∷ 0 ∷ []
