-- Laws of joined lists of triangles. Assumes nothing.
use Prim.Native.Nat.{ℕ, zero, suc}
use mathlib.Core.Path.{◌≡◌, refl, sym, ap, ap₂, ◌∙◌}
use mathlib.Core.List.{List, ◌++◌, append_assoc, append-nil}
use Rattle.strip.specs.declared.triangle.Triangle.{Triangle}
use Rattle.mesh_topology.specs.Quad.{joined_lists}

pub joined_first : (L : ℕ → List Triangle) (n : ℕ) → joined_lists L (suc n) ≡ L 0 ++ joined_lists (λ k. L (suc k)) n
unfolding joined_lists
joined_first L zero = sym (append-nil (L 0))
joined_first L (suc n) = ap (λ ts. ts ++ L (suc n)) (joined_first L n) ∙ append_assoc (L 0) (joined_lists (λ k. L (suc k)) n) (L (suc n))

pub joined_same : (L M : ℕ → List Triangle) (n : ℕ) → ((k : ℕ) → L k ≡ M k) → joined_lists L n ≡ joined_lists M n
unfolding joined_lists
joined_same L M zero h = refl
joined_same L M (suc n) h = ap₂ (λ s t. s ++ t) (joined_same L M n h) (h n)
