-- Numbers as bytes, low byte first. Assumes nothing.
use Rattle.std.specs.Prelude.{ℕ, zero, suc, ◌+◌, ◌*◌, ◌/◌, ◌%◌, List, [], ◌∷◌, get_or}

-- the byte at a place, or 0 past the end
abbrev pub byte_at : List ℕ → ℕ → ℕ
byte_at bs at = get_or bs at 0

-- the number in the k bytes from place `at` on, low byte first
unfoldable pub word : ℕ → List ℕ → ℕ → ℕ
word zero bs at = 0
word (suc k) bs at = byte_at bs at + 256 * word k bs (at + 1)

-- the low k bytes of a number, low byte first
unfoldable pub low_bytes : ℕ → ℕ → List ℕ
low_bytes zero x = []
low_bytes (suc k) x = (x % 256) ∷ low_bytes k (x / 256)
