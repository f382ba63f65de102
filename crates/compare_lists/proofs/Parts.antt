-- The four parts of the list of differences: how many differences each has, and how the parts are written one after the other.
-- Assumes nothing.
use Prim.Native.Nat.{ℕ, ◌+◌, ◌≤◌}
use mathlib.Core.Path.{◌≡◌, refl, sym, ap, ◌∙◌}
use mathlib.Core.List.{List, ◌++◌, append_assoc}
use native.Mathlib.Omega.{arith}
use lib.ListN.{length, length-append, length-map}
use Rattle.buffer.specs.Over.{Wrote}
use Rattle.buffer.proofs.Laws.{Left, left_all, left_step}
use Rattle.check_searches.specs.Points.{same_point}
use Rattle.compare_differences.specs.Lacking.{lacking}
use Rattle.compare_differences.specs.Meshes.{Mesh, same_face}
use Rattle.compare_differences.specs.Differences.{left_points, right_points, left_faces, right_faces, differences, words}
use Rattle.compare_lists.proofs.Passing.{words_append}

module _ (l r : Mesh) where
  -- how many differences there are
  pub parts_count : length (differences l r)
      ≡ length (lacking same_point l.points r.points) + length (lacking same_point r.points l.points)
      + length (lacking same_face l.faces r.faces) + length (lacking same_face r.faces l.faces)
  unfolding differences
  parts_count = simp (length-append, length-map)

  -- their words
  pub parts_words : words (differences l r) ≡ words (left_points l r) ++ (words (right_points l r) ++ (words (left_faces l r) ++ words (right_faces l r)))
  unfolding differences
  parts_words =
      words_append ((left_points l r) ++ (right_points l r) ++ (left_faces l r)) (right_faces l r)
      ∙ ap (λ (w : List ℕ). w ++ words (right_faces l r)) (words_append ((left_points l r) ++ (right_points l r)) (left_faces l r) ∙
      ap (λ (w : List ℕ). w ++ words (left_faces l r)) (words_append (left_points l r) (right_points l r)))
      ∙ simp append_assoc

  -- what is left to write after the points
  pub after_points : {xs xs₁ : List ℕ} {w : ℕ} → length (words (differences l r)) ≤ length xs → Wrote xs 0 (words (left_points l r) ++ words (right_points l r)) xs₁ w
      → Left xs₁ w (words (left_faces l r) ++ words (right_faces l r)) xs 0 (words (differences l r))
  after_points h p =
      left_step p (parts_words ∙ sym (append_assoc (words (left_points l r)) (words (right_points l r)) (words (left_faces l r) ++ words (right_faces l r)))) (left_all refl (omega arith))

  -- what is left to write after the triangles of the left side
  pub after_faces : {xs xs₁ xs₂ : List ℕ} {w v : ℕ} → length (words (differences l r)) ≤ length xs → Wrote xs 0 (words (left_points l r) ++ words (right_points l r)) xs₁ w
      → Wrote xs₁ w (words (left_faces l r)) xs₂ v → Left xs₂ v (words (right_faces l r)) xs 0 (words (differences l r))
  after_faces h p q = left_step q refl (after_points h p)

  -- there is room for the points
  pub points_fit : (xs : List ℕ) → length (words (differences l r)) ≤ length xs → length (words (left_points l r) ++ words (right_points l r)) ≤ length xs
  points_fit xs h =
      let P = words (left_points l r) in
      let Q = words (right_points l r) in
      let F = words (left_faces l r) ++ words (right_faces l r) in
      omega (arith, ap length parts_words, length-append P (Q ++ F), length-append Q F, length-append P Q)
