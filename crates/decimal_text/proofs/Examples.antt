-- Examples to compare with the paper: the whole output for one triangle record, the other title, and the shortest and a longest
-- number. Assumes nothing.
use Prim.Native.Nat.{ℕ}
use mathlib.Core.Path.{◌≡◌, refl}
use mathlib.Core.List.{List, [], ◌∷◌, ◌++◌}
use Rattle.buffer.specs.Over.{flat}
use Rattle.decimal_text.specs.Digits.{digits_in, digits}
use Rattle.decimal_text.specs.Lines.{line, rows}
use Rattle.decimal_text.specs.Heads.{bytes, title_line, drawn_line}

abbrev vertices : List ℕ
vertices = 0 ∷ 196608 ∷ 0 ∷ 0 ∷ 0 ∷ 196608 ∷ 196608 ∷ 0 ∷ 0 ∷ 65536 ∷ 65536 ∷ 65536 ∷ []

abbrev indices : List ℕ
indices = 0 ∷ 1 ∷ 3 ∷ 1 ∷ 2 ∷ 3 ∷ 2 ∷ 0 ∷ 3 ∷ []

pub whole_output : title_line 1 ++ drawn_line 4 9 ++ rows 3 vertices 0 4 ++ rows 3 indices 0 3
    ≡ bytes "TSJ 1\ndrawn 4 9\n0 196608 0\n0 0 196608\n196608 0 0\n65536 65536 65536\n0 1 3\n1 2 3\n2 0 3\n"
unfolding flat digits_in digits line rows
whole_output = refl

pub second_title : title_line 2 ≡ bytes "TSJ 2\n"
unfolding digits_in digits line
second_title = refl

pub zero_digits : digits 0 ≡ bytes "0"
unfolding digits_in digits
zero_digits = refl

pub most_digits : digits 4294967295 ≡ bytes "4294967295"
unfolding digits_in digits
most_digits = refl
