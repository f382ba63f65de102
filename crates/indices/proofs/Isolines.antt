-- An isoline by its first vertex. Assumes nothing.
use Prim.Native.Nat.{ℕ, suc, ◌+◌, ◌*◌, ◌%◌, ◌≤◌, ◌<◌}
use mathlib.Core.Path.{◌≡◌, refl, ap, ◌∙◌}
use mathlib.Core.List.{List, [], ◌∷◌}
use native.Mathlib.Nat.{mul-le-mul, zero-add}
use native.Mathlib.Numerals.{add-one}
use native.Mathlib.Omega.{arith}
use lib.ListN.{length}
use Rattle.buffer.specs.Over.{flat}
use Rattle.buffer.proofs.Laws.{flat_length}
use Rattle.mesh_topology.specs.Lines.{isolines}
use Rattle.shifted_copies.specs.Copies.{shifted, copy}
use Rattle.indices.specs.Isolines.{line_words}
use Rattle.shifted_copies.proofs.Shifts.{flat_shifted, flat_below}

pub line_length : (first n : ℕ) → length (line_words first n) ≡ 2 * n
unfolding line_words
line_length first n = flat_length (λ c. (first + c) ∷ (first + c + 1) ∷ []) 2 0 n (λ c. refl)

-- isoline r begins at vertex r * (n + 1), where each has n segments
abbrev pub line : ℕ → ℕ → List ℕ
line n r = line_words (r * suc n) n

pub isolines_are : (m n : ℕ) → isolines m n ≡ flat (line n) 0 m
unfolding isolines line_words
isolines_are m n = refl

-- the first vertex of a line has a small number
pub first_small : (r n : ℕ) → r ≤ 64 → n ≤ 64 → r * suc n ≤ 4160
first_small r n h k = let l : suc n ≤ 65 = omega arith in mul-le-mul h l

-- a later isoline is the same isoline, shifted
segment_shifted : (x y d : ℕ) → x + d ≡ y → y < 65535 → shifted d (x ∷ (x + 1) ∷ []) ≡ y ∷ (y + 1) ∷ []
unfolding shifted
segment_shifted x y d e h =
    let a : (x + d) % 65536 ≡ y = omega arith in
    let b : (x + 1 + d) % 65536 ≡ y + 1 = omega arith in
    rw (a, b)

line_shifted : (first n d : ℕ) → first + d + n < 65536 → shifted d (line_words first n) ≡ line_words (first + d) n
unfolding line_words
line_shifted first n d h =
    flat_shifted d (λ c. (first + c) ∷ (first + c + 1) ∷ []) 0 n
    ∙ flat_below (λ c. shifted d ((first + c) ∷ (first + c + 1) ∷ [])) (λ c. (first + d + c) ∷ (first + d + c + 1) ∷ []) 0 n
    (λ c l. segment_shifted (first + c) (first + d + c) d (omega arith) (omega arith))

-- isoline r is a copy of the first
pub line_copied : (n r : ℕ) → r ≤ 64 → n ≤ 64 → copy (n + 1) (line_words 0 n) r ≡ line n r
unfolding copy
line_copied n r h k =
    ap (λ (d : ℕ). shifted (r * d) (line_words 0 n)) (add-one n)
    ∙ line_shifted 0 n (r * suc n) (omega (arith, first_small r n h k))
    ∙ ap (λ (x : ℕ). line_words x n) (zero-add (r * suc n))
