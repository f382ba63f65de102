-- A ring is written edge by edge. Assumes nothing.
use Prim.Native.Nat.{ℕ, suc, ◌+◌, ◌*◌, ◌≤◌}
use mathlib.Core.Path.{◌≡◌, refl, ap}
use mathlib.Core.List.{List, [], ◌∷◌, ◌++◌, append-nil}
use native.Mathlib.Omega.{arith}
use lib.ListN.{length}
use Rattle.buffer.specs.Over.{Wrote}
use Rattle.buffer.proofs.Laws.{Left, left_all, left_fits, left_step, left_last}
use Rattle.mesh_geometry.specs.declared.Point.{Point}
use Rattle.mesh_geometry.specs.Edge.{Run, ring}
use Rattle.mesh_geometry.specs.Words.{vertex_words}
use Rattle.vertices.specs.Edges.{edge_points}
use Rattle.mesh_geometry.proofs.Words.{words_length}
use Rattle.vertices.proofs.Words.{words_append, table_words}

-- the edges k, k + 1, .. of a ring are left to write, into `out` from w on, where ys are written into xs from `at` on
pub record EdgesLeft (place : ℕ → ℕ → ℕ → Point) (d k : ℕ) (es : List Run) (out : List ℕ) (w : ℕ) (xs : List ℕ) (at : ℕ) (ys : List ℕ) : Type 0 where
  pub left : Left out w (vertex_words (ring place k es d)) xs at ys

-- an edge, then those after it
edge_words : (place : ℕ → ℕ → ℕ → Point) (d k : ℕ) (e : Run) (es : List Run)
    → vertex_words (ring place k (e ∷ es) d) ≡ vertex_words (edge_points place k e d) ++ vertex_words (ring place (suc k) es d)
unfolding ring
edge_words place d k e es = words_append (edge_points place k e d) (ring place (suc k) es d)

pub edges_start : (place : ℕ → ℕ → ℕ → Point) (d : ℕ) (es : List Run) (xs : List ℕ) (at : ℕ) → at + 3 * length (ring place 0 es d) ≤ length xs
    → EdgesLeft place d 0 es xs at xs at (vertex_words (ring place 0 es d))
edges_start place d es xs at h = record { left = left_all refl (omega (arith, words_length (ring place 0 es d))) }

module _ {place : ℕ → ℕ → ℕ → Point} {d k : ℕ} {e : Run} {out : List ℕ} {w : ℕ} {xs : List ℕ} {at : ℕ} {ys : List ℕ} where
  pub edges_fits : {es : List Run} → EdgesLeft place d k (e ∷ es) out w xs at ys → w + 3 * e.c ≤ length out
  edges_fits {es} l =
      omega (arith, table_words (λ i. place k (e.q i) d) e.c, left_fits (vertex_words (edge_points place k e d)) _ (edge_words place d k e es) l.left)

  pub edges_step : {es : List Run} {out' : List ℕ} {w' : ℕ} → Wrote out w (vertex_words (edge_points place k e d)) out' w'
      → EdgesLeft place d k (e ∷ es) out w xs at ys → EdgesLeft place d (suc k) es out' w' xs at ys
  edges_step {es} p l = record { left = left_step p (edge_words place d k e es) l.left }

  pub edges_last : {out' : List ℕ} {w' : ℕ} → Wrote out w (vertex_words (edge_points place k e d)) out' w'
      → EdgesLeft place d k (e ∷ []) out w xs at ys → Wrote xs at ys out' w'
  unfolding ring
  edges_last p l = left_last p (ap vertex_words (append-nil (edge_points place k e d))) l.left

-- ---- the room for a later edge of a ring that is written edge by edge; `es` are the edges after it
module _ (place : ℕ → ℕ → ℕ → Point) (d : ℕ) (e0 : Run) {xs : List ℕ} {at : ℕ} where
  module _ (e1 : Run) {xs₁ : List ℕ} {w₁ : ℕ} where
    pub second_edge_fits : (es : List Run) → at + 3 * length (ring place 0 (e0 ∷ e1 ∷ es) d) ≤ length xs
        → Wrote xs at (vertex_words (edge_points place 0 e0 d)) xs₁ w₁ → w₁ + 3 * e1.c ≤ length xs₁
    second_edge_fits es room p = edges_fits (edges_step {e = e0} p (edges_start place d (e0 ∷ e1 ∷ es) xs at room))

    module _ (e2 : Run) {xs₂ : List ℕ} {w₂ : ℕ} where
      pub third_edge_fits : (es : List Run) → at + 3 * length (ring place 0 (e0 ∷ e1 ∷ e2 ∷ es) d) ≤ length xs
          → Wrote xs at (vertex_words (edge_points place 0 e0 d)) xs₁ w₁ → Wrote xs₁ w₁ (vertex_words (edge_points place 1 e1 d)) xs₂ w₂
          → w₂ + 3 * e2.c ≤ length xs₂
      third_edge_fits es room p q = edges_fits (edges_step {e = e1} q (edges_step {e = e0} p (edges_start place d (e0 ∷ e1 ∷ e2 ∷ es) xs at room)))

      pub fourth_edge_fits : (e3 : Run) (es : List Run) {xs₃ : List ℕ} {w₃ : ℕ} → at + 3 * length (ring place 0 (e0 ∷ e1 ∷ e2 ∷ e3 ∷ es) d) ≤ length xs
          → Wrote xs at (vertex_words (edge_points place 0 e0 d)) xs₁ w₁ → Wrote xs₁ w₁ (vertex_words (edge_points place 1 e1 d)) xs₂ w₂
          → Wrote xs₂ w₂ (vertex_words (edge_points place 2 e2 d)) xs₃ w₃ → w₃ + 3 * e3.c ≤ length xs₃
      fourth_edge_fits e3 es room p q r =
          edges_fits (edges_step {e = e2} r (edges_step {e = e1} q (edges_step {e = e0} p (edges_start place d (e0 ∷ e1 ∷ e2 ∷ e3 ∷ es) xs at room))))

-- ---- a whole ring of three edges, or of four
module _ (place : ℕ → ℕ → ℕ → Point) (d : ℕ) (e0 e1 e2 : Run) {xs xs₁ xs₂ xs₃ : List ℕ} {at w₁ w₂ w₃ : ℕ} where
  pub three_edges : at + 3 * length (ring place 0 (e0 ∷ e1 ∷ e2 ∷ []) d) ≤ length xs → Wrote xs at (vertex_words (edge_points place 0 e0 d)) xs₁ w₁
      → Wrote xs₁ w₁ (vertex_words (edge_points place 1 e1 d)) xs₂ w₂ → Wrote xs₂ w₂ (vertex_words (edge_points place 2 e2 d)) xs₃ w₃
      → Wrote xs at (vertex_words (ring place 0 (e0 ∷ e1 ∷ e2 ∷ []) d)) xs₃ w₃
  three_edges room p q r = edges_last {e = e2} r (edges_step {e = e1} q (edges_step {e = e0} p (edges_start place d (e0 ∷ e1 ∷ e2 ∷ []) xs at room)))

  pub four_edges : (e3 : Run) {xs₄ : List ℕ} {w₄ : ℕ} → at + 3 * length (ring place 0 (e0 ∷ e1 ∷ e2 ∷ e3 ∷ []) d) ≤ length xs → Wrote xs at (vertex_words (edge_points place 0 e0 d)) xs₁ w₁
      → Wrote xs₁ w₁ (vertex_words (edge_points place 1 e1 d)) xs₂ w₂ → Wrote xs₂ w₂ (vertex_words (edge_points place 2 e2 d)) xs₃ w₃
      → Wrote xs₃ w₃ (vertex_words (edge_points place 3 e3 d)) xs₄ w₄ → Wrote xs at (vertex_words (ring place 0 (e0 ∷ e1 ∷ e2 ∷ e3 ∷ []) d)) xs₄ w₄
  four_edges e3 room p q r t =
      edges_last {e = e3} t (edges_step {e = e2} r (edges_step {e = e1} q (edges_step {e = e0} p (edges_start place d (e0 ∷ e1 ∷ e2 ∷ e3 ∷ []) xs at room))))
