-- The words of joined lists of points. Assumes nothing.
use Prim.Native.Nat.{ℕ, zero, suc, ◌+◌, ◌*◌}
use mathlib.Core.Path.{◌≡◌, refl, ap, ◌∙◌}
use mathlib.Core.List.{List, [], ◌∷◌, ◌++◌}
use native.Mathlib.Omega.{arith}
use lib.ListN.{length}
use Rattle.buffer.specs.Over.{flat}
use Rattle.edge.specs.Table.{table}
use Rattle.edge.proofs.Table.{length_table}
use Rattle.mesh_geometry.specs.declared.Point.{Point}
use Rattle.mesh_geometry.specs.QuadPoints.{grid}
use Rattle.mesh_geometry.specs.Words.{coordinate_words, vertex_words}
use Rattle.mesh_geometry.proofs.Words.{words_length}

pub words_append : (ps qs : List Point) → vertex_words (ps ++ qs) ≡ vertex_words ps ++ vertex_words qs
unfolding vertex_words
words_append [] qs = refl
words_append (p ∷ ps) qs = rw (words_append ps qs)

-- pieces counted from 1, as pieces counted from 0
flat_after : (f : ℕ → List ℕ) (i k : ℕ) → flat (λ j. f (suc j)) i k ≡ flat f (suc i) k
unfolding flat
flat_after f i zero = refl
flat_after f i (suc k) =
    let e : suc (i + 1) ≡ suc i + 1 = omega arith in
    ap (λ (l : List ℕ). f (suc i) ++ l) (flat_after f (i + 1) k ∙ ap (λ (n : ℕ). flat f n k) e)

pub words_table : (f : ℕ → Point) (n : ℕ) → vertex_words (table f n) ≡ flat (λ i. coordinate_words (f i)) 0 n
unfolding vertex_words table flat
words_table f zero = refl
words_table f (suc n) =
    ap (λ (l : List ℕ). coordinate_words (f 0) ++ l) (words_table (λ i. f (suc i)) n ∙ flat_after (λ i. coordinate_words (f i)) 0 n)

pub words_grid : (P : ℕ → ℕ → Point) (h w : ℕ) → vertex_words (grid P h w) ≡ flat (λ r. vertex_words (table (P r) w)) 0 h
unfolding vertex_words grid flat
words_grid P zero w = refl
words_grid P (suc h) w =
    words_append (table (P 0) w) (grid (λ r. P (suc r)) h w)
    ∙ ap (λ (l : List ℕ). vertex_words (table (P 0) w) ++ l)
    (words_grid (λ r. P (suc r)) h w ∙ flat_after (λ r. vertex_words (table (P r) w)) 0 h)

pub table_words : (f : ℕ → Point) (n : ℕ) → length (vertex_words (table f n)) ≡ 3 * n
table_words f n = omega (arith, words_length (table f n), length_table f n)
