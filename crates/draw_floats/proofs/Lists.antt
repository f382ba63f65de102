-- The three lists, if everything fits. Assumes nothing.
use Prim.Native.Nat.{ℕ, ◌*◌, ◌≤◌, ◌<◌}
use mathlib.Core.Path.{◌≡◌, sym, ap, ◌∙◌}
use mathlib.Core.List.{List, map}
use native.Mathlib.Omega.{arith}
use lib.Ieee.{Float}
use lib.ListN.{length, take, get_or}
use lib.Seq.{get_or-take}
use Rattle.buffer.specs.Over.{over}
use Rattle.buffer.proofs.Laws.{over_front, over_length}
use Rattle.patch.specs.declared.kinds.Patch.{Patch}
use Rattle.patch.specs.declared.kinds.Patch.TheVariants.{Triangles, Quads, Isolines}
use Rattle.patch.specs.declared.settings.Settings.{Settings}
use Rattle.patch.specs.Subdivide.{subdivision_of}
use Rattle.mesh_geometry.proofs.Lists.{all_at}
use Rattle.mesh_geometry.proofs.Words.{words_length}
use Rattle.patch_mesh.specs.Points.{points}
use Rattle.patch_mesh.specs.Coordinates.{one}
use Rattle.patch_mesh.proofs.InPatch.{words_up_to}
use Rattle.std.proofs.Common.{Result}
use Rattle.tessellate.specs.declared.refusal.DrawRefusal.{DrawRefusal}
use Rattle.measure.specs.Sizes.{points_of, indices_of}
use Rattle.tessellate.specs.Answers.{points_code, indices_code}
use Rattle.answer_codes.specs.AnswerCode.{drew}
use Rattle.tessellate.specs.Draws.{point_words, connection_words, DrewPoints, DrewIndices}
use Rattle.level.proofs.Top.{top_as}
use Rattle.tessellate.proofs.Draws.{told_drawn}
use Rattle.coordinate.specs.Coordinate.{coordinate, Castable}
use Rattle.draw_floats.specs.Draws.{float_words}
use Rattle.draw_floats.proofs.Verdicts.{Fits}

-- an `f32` holds the number that represents 1
one_small : (p : Patch) → (0 < one p) × (one p ≤ 16777216)
one_small (Triangles a b c i) = omega arith
one_small (Quads a b c d i j) = omega arith
one_small (Isolines a b) = omega arith

-- vs, is and fs are the lists at entry
module _ (set : Settings) (p : Patch) {vs is : List ℕ} {fs : List Float} {P I : ℕ} (fits : Fits set p vs is fs P I) where
  -- each operation draws
  pub points_over : (r : Result ℕ DrawRefusal) {vs' : List ℕ} → DrewPoints set p vs vs' r → vs' ≡ over vs 0 (point_words set p)
  points_over r d =
      let e : points_code r ≡ drew (points_of set p) = d.answer ∙ told_drawn set p 3 _ _ _ fits.top fits.drawn fits.vertices in
      d.list ∙ rw e

  pub indices_over : (r : Result ℕ DrawRefusal) {is' : List ℕ} → DrewIndices set p is is' r → is' ≡ over is 0 (connection_words set p)
  indices_over r d =
      let e : indices_code r ≡ drew (indices_of set p) = d.answer ∙ told_drawn set p 4 _ _ _ fits.top fits.drawn fits.corners in
      d.list ∙ rw e

  pub counted : 3 * P ≡ length (point_words set p)
  counted = omega (arith, fits.point_count_lem, words_length (points (subdivision_of set p)))

  module _ {vs' : List ℕ} (e : vs' ≡ over vs 0 (point_words set p)) where
    -- the counted words of the vertex list are those of the points
    pub front : take (3 * P) vs' ≡ point_words set p
    front = ap (take (3 * P)) e ∙ over_front vs (point_words set p) (3 * P) counted

    pub word_at : (k : ℕ) → k < 3 * P → get_or vs' k 0 ≡ get_or (point_words set p) k 0
    word_at k h = sym (get_or-take (3 * P) vs' k 0 h) ∙ ap (λ (l : List ℕ). get_or l k 0) front

    -- no coordinate exceeds 1
    pub word_small : (k : ℕ) → k < 3 * P → get_or vs' k 0 ≤ one p
    word_small k h =
        let small = all_at {Q = λ w. w ≤ one p} 0 k (omega (arith, counted)) (words_up_to set.spacing set.top (top_as _ fits.top) p) in
        omega (arith, word_at k h)

    -- so each has a float: what the loop requires
    pub loop_asks : {unit : ℕ} → unit ≡ one p → ((3 * P ≤ length fs) × (3 * P ≤ length vs') × (0 < unit) × (unit ≤ 16777216)) × Castable (3 * P) vs'
    loop_asks u =
        let same : length vs' ≡ length vs = ap length e ∙ over_length vs 0 (point_words set p) (omega (arith, counted, fits.vertices, fits.point_count_lem)) in (
          omega (arith, u, same, fits.point_count_lem, fits.vertices, fits.floats, one_small p),
          record { each = λ k h. omega (arith, word_small k h, one_small p) },
        )

    pub floats_over : {fs' : List Float} → fs' ≡ over fs 0 (map (coordinate (one p)) (take (3 * P) vs')) → fs' ≡ over fs 0 (float_words set p)
    floats_over d = d ∙ ap (λ (l : List ℕ). over fs 0 (map (coordinate (one p)) l)) front
