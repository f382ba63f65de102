-- The index words of one isoline. Assumes nothing.
use Rattle.std.specs.Prelude.{ℕ, ◌+◌, List, [], ◌∷◌}
use Rattle.buffer.specs.Over.{flat}

-- n segments from vertex `first` on, two vertices each
unfoldable pub line_words : ℕ → ℕ → List ℕ
line_words first n = flat (λ c. (first + c) ∷ (first + c + 1) ∷ []) 0 n
