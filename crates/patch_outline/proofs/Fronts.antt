-- The outline at the front of a patch's points. Assumes nothing.
use Prim.Native.Nat.{ℕ, ◌+◌, ◌*◌, ◌-◌}
use mathlib.Core.Path.{◌≡◌, refl, ap, sym, ◌∙◌}
use mathlib.Core.List.{List, [], ◌∷◌, ◌++◌, append_assoc}
use native.Mathlib.Nat.{sub-zero}
use native.Mathlib.Omega.{arith}
use lib.ListN.{length, take, length-append}
use lib.Seq.{take-append_seam}
use Rattle.buffer.specs.Over.{over, Wrote}
use Rattle.buffer.proofs.Laws.{wrote_within}
use Rattle.mesh_geometry.specs.declared.Point.{Point}
use Rattle.mesh_geometry.specs.Edge.{Run, around, ring}
use Rattle.mesh_geometry.specs.TrianglePoints.{triangle_place, centre, rings, triangle_patch}
use Rattle.mesh_geometry.specs.QuadPoints.{quad_place, grid, quad_patch}
use Rattle.mesh_geometry.specs.Words.{vertex_words, read_points}
use Rattle.mesh_geometry.proofs.Words.{words_length}
use Rattle.mesh_geometry.proofs.Ring.{ring_length}
use Rattle.mesh_geometry.proofs.ReadBack.{read_points_lem}
use Rattle.vertices.proofs.Words.{words_append}
use Rattle.patch_outline.specs.Outlines.{OutlineOf}

seam : (xs ys zs : List ℕ) → take (length xs) ((xs ++ ys) ++ zs) ≡ xs
seam xs ys zs = rw (append_assoc xs ys zs) (take-append_seam xs (ys ++ zs))

-- the points are those of the outline, then others
pub record Outlined (all ps qs : List Point) : Type 0 where
  pub is : all ≡ ps ++ qs

-- the words at the front are those of the outline, then those of the other points
pub outline_front : {all ps qs : List Point} {xs xs' : List ℕ} {w : ℕ} (n : ℕ) → Outlined all ps qs → n ≡ 3 * length ps
    → Wrote xs 0 (vertex_words all) xs' w → OutlineOf ps xs' n
unfolding over
outline_front {all = all} {ps = ps} {qs = qs} n e k w = record {
  fits = omega (arith, wrote_within (omega arith) w, w.next, words_length all, ap length e.is, length-append ps qs);
  is = rw (w.is, e.is, words_append ps qs, k ∙ sym (words_length ps)) (seam (vertex_words ps) (vertex_words qs) _);
}

module _ (place : ℕ → ℕ → ℕ → Point) (es : List Run) where
  -- the number of points
  pub outlined_length : {all qs : List Point} → Outlined all (ring place 0 es 0) qs → length all ≡ around es + length qs
  outlined_length {qs = qs} e = ap length e.is ∙ length-append (ring place 0 es 0) qs ∙ rw (ring_length place 0 es 0)

-- a triangle patch whose inner level gives two segments has one inner point
pub one_inside : (e0 e1 e2 inside : Run) → inside.c ≡ 2
    → Outlined (triangle_patch e0 e1 e2 inside) (ring triangle_place 0 (e0 ∷ e1 ∷ e2 ∷ []) 0) (centre ∷ [])
unfolding rings
one_inside e0 e1 e2 inside e = record { is = rw e }

-- a quad patch whose first inner level gives one segment has no inner point
pub none_inside : (e0 e1 e2 e3 rows columns : Run) → rows.c ≡ 1
    → Outlined (quad_patch e0 e1 e2 e3 rows columns) (ring quad_place 0 (e0 ∷ e1 ∷ e2 ∷ e3 ∷ []) 0) []
unfolding grid
none_inside e0 e1 e2 e3 rows columns e = record { is = rw e }

-- the outline's points read back
pub outline_read : {ps : List Point} {ws : List ℕ} {n : ℕ} → OutlineOf ps ws n → read_points (take (n - 0) ws) ≡ ps
outline_read {ps = ps} {n = n} h = rw (sub-zero n, h.is) (read_points_lem ps)

-- no outline
pub no_outline : {ws : List ℕ} → OutlineOf [] ws 0
unfolding vertex_words
no_outline = record { fits = omega arith; is = refl }
