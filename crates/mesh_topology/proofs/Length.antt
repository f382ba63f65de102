-- The numbers of triangles, lines and dots. Assumes nothing.
use Prim.Native.Nat.{ℕ, zero, suc, ◌+◌, ◌*◌, ◌-◌}
use mathlib.Core.Path.{◌≡◌, refl}
use mathlib.Core.List.{List, [], ◌∷◌}
use native.Mathlib.Omega.{arith}
use lib.ListN.{length, length-append}
use Rattle.buffer.specs.Over.{flat}
use Rattle.buffer.proofs.Laws.{flat_length}
use Rattle.strip.specs.declared.triangle.Triangle.{Triangle}
use Rattle.strip.proofs.Strips.{strip_length}
use Rattle.mesh_topology.specs.Band.{band_from}
use Rattle.mesh_topology.specs.Nest.{nest, count}
use Rattle.mesh_topology.specs.Lines.{line_segment, isolines, dots}
use Rattle.mesh_topology.specs.Quad.{grid_at, cell, joined_lists, cells, quad, quad_count}

joined_length : (l : ℕ) (L : ℕ → List Triangle) (n : ℕ) → ((k : ℕ) → length (L k) ≡ l) → length (joined_lists L n) ≡ n * l
unfolding joined_lists
joined_length l L zero h = omega arith
joined_length l L (suc n) h = simp length-append (omega (arith, joined_length l L n h, h n))

pub nest_length : (n base c0 c1 c2 : ℕ) → length (nest base c0 c1 c2 n) ≡ count c0 c1 c2 n
unfolding nest band_from count
nest_length zero base c0 c1 c2 = refl
nest_length (suc zero) base c0 c1 c2 = refl
nest_length (suc (suc r)) base c0 c1 c2 = simp (length-append, strip_length, nest_length r) (omega arith)

cells_length : (P : ℕ → ℕ → ℕ) (a b : ℕ) → length (cells P a b) ≡ 2 * (a * b)
cells_length P a b = omega (arith, joined_length (b * 2) (λ r. joined_lists (cell P r) b) a (λ r. joined_length 2 (cell P r) b (λ c. refl)))

pub quad_length : (base c0 c1 c2 c3 m n : ℕ) → length (quad base c0 c1 c2 c3 m n) ≡ quad_count c0 c1 c2 c3 m n
unfolding quad band_from
quad_length base c0 c1 c2 c3 m n =
    simp (length-append, strip_length) (omega (arith, cells_length (grid_at (base + (c0 + c1 + c2 + c3)) (n - 1)) (m - 2) (n - 2)))

-- ---- the index words of isolines and dots
pub isolines_length : (m n : ℕ) → length (isolines m n) ≡ 2 * (m * n)
unfolding isolines
isolines_length m n =
    omega (arith, flat_length (λ r. flat (line_segment n r) 0 n) (2 * n) 0 m (λ r. flat_length (line_segment n r) 2 0 n (λ c. refl)))

pub dots_length : (p : ℕ) → length (dots p) ≡ p
unfolding dots
dots_length p = omega (arith, flat_length (λ i. i ∷ []) 1 0 p (λ i. refl))
