-- Decimal numbers as text: how `put_number` writes them, and how they read back. Assumes nothing.
use Rattle.std.specs.Prelude.{ℕ, zero, suc, ◌+◌, ◌-◌, ◌*◌, ◌/◌, ◌%◌, true, false, List, [], ◌∷◌, ◌++◌, ltb}

-- the digits of x as bytes, most significant first, for an x of at most k digits: those of x / 10 unless that is 0, then x % 10
unfoldable pub digits_in : ℕ → ℕ → List ℕ
digits_in zero x = []
digits_in (suc k) x = elim (ltb x 10) [ true ↦ [] | false ↦ digits_in k (x / 10) ] ++ ((48 + x % 10) ∷ [])

-- the decimal digits of x as bytes; 0 is "0", and no other number starts with a zero
unfoldable pub digits : ℕ → List ℕ
digits x = digits_in (suc x) x

-- the number that a text of digits denotes; n is the number that the digits before it denote
unfoldable pub read_from : ℕ → List ℕ → ℕ
read_from n [] = n
read_from n (b ∷ bs) = read_from (10 * n + (b - 48)) bs
