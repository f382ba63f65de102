-- The index words of isolines and of points. Assumes nothing.
use Rattle.std.specs.Prelude.{ℕ, suc, ◌+◌, ◌*◌, List, [], ◌∷◌}
use Rattle.buffer.specs.Over.{flat}

-- segment c of isoline r, where each isoline has n segments: the numbers of its two vertices
abbrev pub line_segment : ℕ → ℕ → ℕ → List ℕ
line_segment n r c = (r * suc n + c) ∷ (r * suc n + c + 1) ∷ []

-- m isolines of n segments each, one after the other
unfoldable pub isolines : ℕ → ℕ → List ℕ
isolines m n = flat (λ r. flat (line_segment n r) 0 n) 0 m

-- the indices in point mode: 0 to p - 1, one per point
unfoldable pub dots : ℕ → List ℕ
dots p = flat (λ i. i ∷ []) 0 p
