-- Points in two parts; the second is written after the first. Assumes nothing.
use Prim.Native.Nat.{ℕ, ◌+◌, ◌*◌, ◌≤◌}
use mathlib.Core.Path.{◌≡◌, ap, ◌∙◌, subst}
use mathlib.Core.List.{List, ◌++◌}
use native.Mathlib.Omega.{arith}
use lib.ListN.{length, length-append}
use Rattle.buffer.specs.Over.{Wrote}
use Rattle.buffer.proofs.Laws.{over_length, wrote_then}
use Rattle.mesh_geometry.specs.declared.Point.{Point}
use Rattle.mesh_geometry.specs.Words.{vertex_words}
use Rattle.mesh_geometry.proofs.Words.{words_length}
use Rattle.vertices.proofs.Words.{words_append}

-- the points `all` are ps and then qs, and the list xs has room for their words from `at` on
pub record Parts (all ps qs : List Point) (xs : List ℕ) (at : ℕ) : Type 0 where
  pub is : all ≡ ps ++ qs
  pub room : at + 3 * length all ≤ length xs

module _ {all ps qs : List Point} {xs : List ℕ} {at : ℕ} (p : Parts all ps qs xs at) where
  parts_length : length all ≡ length ps + length qs
  parts_length = ap length p.is ∙ length-append ps qs

  pub first_fits : at + 3 * length ps ≤ length xs
  first_fits = omega (arith, parts_length)

  pub second_fits : {xs' : List ℕ} {w : ℕ} → Wrote xs at (vertex_words ps) xs' w → w + 3 * length qs ≤ length xs'
  second_fits h =
      let n = words_length ps in
      let l = parts_length in
      omega (arith, ap length h.is, over_length xs at (vertex_words ps) (omega arith))

  pub both_parts : {xs₁ xs₂ : List ℕ} {w w' : ℕ} → Wrote xs at (vertex_words ps) xs₁ w → Wrote xs₁ w (vertex_words qs) xs₂ w'
      → Wrote xs at (vertex_words all) xs₂ w'
  both_parts h k = rw (p.is, words_append ps qs) (wrote_then (omega arith) h k)

-- equal points have equal words
pub wrote_same : {ps qs : List Point} {xs xs' : List ℕ} {at w : ℕ} → ps ≡ qs → Wrote xs at (vertex_words ps) xs' w → Wrote xs at (vertex_words qs) xs' w
wrote_same {xs = xs} {xs' = xs'} {at = at} {w = w} e = subst (λ (ps : List Point). Wrote xs at (vertex_words ps) xs' w) e
