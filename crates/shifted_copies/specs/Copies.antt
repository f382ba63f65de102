-- Shifted copies of words: each copy exceeds the one before by the same number. Assumes nothing.
use Rattle.std.specs.Prelude.{ℕ, ◌+◌, ◌*◌, ◌%◌, List, [], ◌∷◌}

-- each word plus d, modulo 65536
unfoldable pub shifted : ℕ → List ℕ → List ℕ
shifted d [] = []
shifted d (x ∷ xs) = ((x + d) % 65536) ∷ shifted d xs

-- copy i of ys: each word plus i * by
unfoldable pub copy : ℕ → List ℕ → ℕ → List ℕ
copy by ys i = shifted (i * by) ys
