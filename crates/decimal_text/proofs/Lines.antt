-- Laws of `line` for any number of columns: its parts, how it is written, and its length. Assumes nothing.
use mathlib.Core.Path.{◌≡◌, refl}
use mathlib.Core.List.{List, [], ◌∷◌, ◌++◌, append_assoc}
use Prim.Native.Nat.{ℕ, zero, suc, ◌+◌, ◌*◌, ◌^◌, ◌≤◌, ◌<◌}
use native.Mathlib.Nat.{add_assoc, mul-suc, mul-le-mul_left, le_trans}
use native.Mathlib.Numerals.{add-one}
use native.Mathlib.Omega.{arith}
use lib.ListN.{length, get_or, take, drop, length-append, length-take, length-drop}
use lib.Seq.{slice, slice-cons, slice_empty}
use Rattle.buffer.specs.Over.{Wrote}
use Rattle.buffer.proofs.Laws.{wrote_then}
use Rattle.decimal_text.specs.Digits.{digits}
use Rattle.decimal_text.specs.Lines.{line}
use Rattle.decimal_text.proofs.Digits.{digits_length}

-- the last number
pub line_last : (x : ℕ) → line (x ∷ []) ≡ digits x ++ (10 ∷ [])
unfolding line
line_last x = refl

-- a number before the last
pub line_more : (x y : ℕ) (ys : List ℕ) → line (x ∷ y ∷ ys) ≡ digits x ++ (32 ∷ []) ++ line (y ∷ ys)
unfolding line
line_more x y ys = simp append_assoc

-- one number is written, then the rest of its line
pub line_then : {xs xs₁ xs₂ : List ℕ} {at w r : ℕ} (x y : ℕ) (ys : List ℕ) → at ≤ length xs → Wrote xs at (digits x ++ (32 ∷ [])) xs₁ w
    → Wrote xs₁ w (line (y ∷ ys)) xs₂ r → Wrote xs at (line (x ∷ y ∷ ys)) xs₂ r
line_then x y ys h p q = rw line_more (wrote_then h p q)

-- ---- the line for part of a list

part_cons : (xs : List ℕ) (j end : ℕ) → j < end → end ≤ length xs → slice j end xs ≡ get_or xs j 0 ∷ slice (j + 1) end xs
part_cons xs j end h l = rw add-one (slice-cons j end xs 0 h l)

pub part_last : (xs : List ℕ) (j last end : ℕ) → j ≡ last → last + 1 ≡ end → end ≤ length xs → line (slice j end xs) ≡ digits (get_or xs last 0) ++ (10 ∷ [])
part_last xs j last end e f l = rw (e, ← f, part_cons xs last (last + 1) (omega arith) (omega arith), slice_empty) (line_last (get_or xs last 0))

pub part_more : (xs : List ℕ) (j end : ℕ) → j + 1 < end → end ≤ length xs → line (slice j end xs) ≡ digits (get_or xs j 0) ++ (32 ∷ []) ++ line (slice (j + 1) end xs)
part_more xs j end h l = rw (part_cons xs j end (omega arith) l, part_cons xs (j + 1) end h l) (line_more (get_or xs j 0) (get_or xs (j + 1) 0) (slice (j + 1 + 1) end xs))

pub part_three : (xs : List ℕ) (k : ℕ) → k + 3 ≤ length xs → slice k (k + 3) xs ≡ get_or xs k 0 ∷ get_or xs (k + 1) 0 ∷ get_or xs (k + 2) 0 ∷ []
part_three xs k h =
    rw (part_cons xs k (k + 3) (omega arith) h, part_cons xs (k + 1) (k + 3) (omega arith) h, add_assoc k 1 1, part_cons xs (k + 2) (k + 3) (omega arith) h, add_assoc k 2 1, slice_empty)

-- ---- the length of a line

pub line_last_length : (x : ℕ) → length (line (x ∷ [])) ≡ length (digits x) + 1
unfolding line
line_last_length x = length-append (digits x) (10 ∷ [])

pub line_more_length : (x y : ℕ) (ys : List ℕ) → length (line (x ∷ y ∷ ys)) ≡ length (digits x) + 1 + length (line (y ∷ ys))
line_more_length x y ys = rw (line_more, length-append, length-append)

pub part_last_length : (xs : List ℕ) (j last end : ℕ) → j ≡ last → last + 1 ≡ end → end ≤ length xs → length (line (slice j end xs)) ≡ length (digits (get_or xs last 0)) + 1
part_last_length xs j last end e f l = rw (part_last xs j last end e f l, length-append)

pub part_more_length : (xs : List ℕ) (j end : ℕ) → j + 1 < end → end ≤ length xs → length (line (slice j end xs)) ≡ length (digits (get_or xs j 0)) + 1 + length (line (slice (j + 1) end xs))
part_more_length xs j end h l = rw (part_more xs j end h l, length-append, length-append)

-- every number in the list is below n
pub data Below (n : ℕ) : List ℕ → Type 0 where
  none : Below n []
  more : {x : ℕ} {xs : List ℕ} → x < n → Below n xs → Below n (x ∷ xs)

pub below_all : (n : ℕ) (xs : List ℕ) → ((i : ℕ) → get_or xs i 0 < n) → Below n xs
below_all n [] h = none
below_all n (x ∷ xs) h = more (h 0) (below_all n xs (λ i. h (suc i)))

below_take : {n : ℕ} {xs : List ℕ} (k : ℕ) → Below n xs → Below n (take k xs)
below_take zero b = none
below_take (suc k) none = none
below_take (suc k) (more h b) = more h (below_take k b)

below_drop : {n : ℕ} {xs : List ℕ} (k : ℕ) → Below n xs → Below n (drop k xs)
below_drop zero b = b
below_drop (suc k) none = none
below_drop (suc k) (more h b) = below_drop k b

-- numbers of at most d + 1 digits take at most d + 2 bytes each
pub line_length : (d : ℕ) (xs : List ℕ) → Below (10 ^ suc d) xs → length (line xs) ≤ suc (suc d) * length xs
unfolding line
line_length d [] b = omega arith
line_length d (x ∷ xs) (more h b) = rw (length-append, mul-suc) (omega (arith, digits_length x d h, line_length d xs b))

-- for part of a list
pub part_length : (d j n : ℕ) (xs : List ℕ) → Below (10 ^ suc d) xs → length (line (slice j (j + n) xs)) ≤ suc (suc d) * n
part_length d j n xs b =
    let l : length (slice j (j + n) xs) ≤ n = rw (length-drop, length-take) (omega arith) in
    le_trans (line_length d (slice j (j + n) xs) (below_drop j (below_take (j + n) b))) (mul-le-mul_left (suc (suc d)) l)
