-- The points of a grid, row by row. Assumes nothing.
use Prim.Native.Nat.{ℕ, zero, suc, ◌+◌, ◌*◌, ◌<◌}
use mathlib.Core.Path.{◌≡◌, refl, sym, ◌∙◌}
use native.Mathlib.Omega.{arith}
use lib.ListN.{length, length-append}
use Rattle.edge.specs.Table.{table}
use Rattle.edge.proofs.Table.{length_table}
use Rattle.mesh_geometry.specs.declared.Point.{Point}
use Rattle.mesh_geometry.specs.Faces.{at}
use Rattle.mesh_geometry.specs.QuadPoints.{grid}
use Rattle.mesh_geometry.proofs.Lists.{All, none, all_append, all_table, Distinct, distinct_append, distinct_table}
use Rattle.mesh_geometry.proofs.Ring.{table_at, past}

pub grid_length : (P : ℕ → ℕ → Point) (h w : ℕ) → length (grid P h w) ≡ h * w
unfolding grid
grid_length P zero w = omega arith
grid_length P (suc h) w = simp (length-append, length_table) (omega (arith, grid_length (λ r. P (suc r)) h w))

pub grid_at_lem : (P : ℕ → ℕ → Point) (h w r c : ℕ) → r < h → c < w → at (grid P h w) (r * w + c) ≡ P r c
unfolding grid
grid_at_lem P zero w r c u v = absurd (omega arith)
grid_at_lem P (suc h) w zero c u v =
    let e : 0 * w + c ≡ c = omega arith in
    rw e (table_at (P 0) w _ c v)
grid_at_lem P (suc h) w (suc r) c u v =
    let e : suc r * w + c ≡ w + (r * w + c) = omega arith in
    rw e (past (table (P 0) w) _ w (r * w + c) (length_table (P 0) w) ∙ grid_at_lem (λ s. P (suc s)) h w r c (omega arith) v)

pub grid_all : (Q : Point → Type 0) (P : ℕ → ℕ → Point) (h w : ℕ) → ((r c : ℕ) → r < h → c < w → Q (P r c)) → All Q (grid P h w)
unfolding grid
grid_all Q P zero w law = none
grid_all Q P (suc h) w law =
    all_append _ (all_table Q (P 0) w (λ c v. law 0 c (omega arith) v))
    (grid_all Q (λ r. P (suc r)) h w (λ r c u v. law (suc r) c (omega arith) v))

pub grid_distinct : (P : ℕ → ℕ → Point) (h w : ℕ) → ((r s c d : ℕ) → r < s → s < h → c < w → d < w → P r c ≡ P s d → ⊥)
    → ((r c d : ℕ) → r < h → c < d → d < w → P r c ≡ P r d → ⊥) → Distinct (grid P h w)
unfolding grid
grid_distinct P zero w rows row = none
grid_distinct P (suc h) w rows row =
    distinct_append (λ p. (c : ℕ) × (c < w) × (p ≡ P 0 c)) (λ p. (s : ℕ) × (d : ℕ) × (s < h) × (d < w) × (p ≡ P (suc s) d)) _
    (λ p q v z e. rows 0 (suc z.0) v.0 z.1 (omega arith) (omega (arith, z.2)) v.1 z.3 (sym v.2 ∙ e ∙ z.4))
    (all_table _ (P 0) w (λ c v. (c, v, refl))) (grid_all _ (λ r. P (suc r)) h w (λ s d u v. (s, d, u, v, refl)))
    (distinct_table (P 0) w (λ c d l m. row 0 c d (omega arith) l m))
    (grid_distinct (λ r. P (suc r)) h w (λ r s c d l m. rows (suc r) (suc s) c d (omega arith) (omega arith))
    (λ r c d l. row (suc r) c d (omega arith)))
