-- The drawn floats beside the whole-number coordinates, read from the lists. Assumes nothing.
use Prim.Native.Nat.{ℕ, zero, suc, ◌*◌, ◌≤◌, ◌<◌}
use mathlib.Core.Path.{◌≡◌, refl, sym, ap, ◌∙◌}
use mathlib.Core.List.{List, [], ◌∷◌}
use native.Mathlib.Omega.{arith}
use lib.Ieee.{Float, nan}
use lib.ListN.{length, take, get_or, length-map, get_or-map}
use lib.Seq.{get_or-take}
use Rattle.buffer.proofs.Laws.{over_front}
use Rattle.patch.specs.declared.kinds.Patch.{Patch}
use Rattle.patch.specs.declared.kinds.Patch.TheVariants.{Triangles, Quads, Isolines}
use Rattle.patch.specs.declared.settings.Settings.{Settings}
use Rattle.patch.specs.Subdivide.{subdivision_of}
use Rattle.mesh_geometry.specs.declared.Point.{Point}
use Rattle.mesh_geometry.specs.Cover.{missing}
use Rattle.mesh_geometry.specs.Words.{vertex_words}
use Rattle.mesh_geometry.proofs.Lists.{get_within}
use Rattle.mesh_geometry.proofs.Words.{words_length}
use Rattle.patch_mesh.specs.Points.{points}
use Rattle.patch_mesh.specs.Coordinates.{one}
use Rattle.patch_mesh.proofs.Distinct.{points_distinct}
use Rattle.tessellate.specs.Draws.{point_words}
use Rattle.level.proofs.Top.{top_as}
use Rattle.coordinate.specs.Coordinate.{coordinate}
use Rattle.coordinate.proofs.Laws.{exact, near, triangle_apart, quad_apart}
use Rattle.std.proofs.Common.{Result}
use Rattle.measure.specs.declared.size.DrawnCounts.{DrawnCounts}
use Rattle.draw_floats.specs.declared.refusal.FloatsRefusal.{FloatsRefusal}
use Rattle.answer_codes.specs.AnswerCode.{drew_both}
use Rattle.draw_floats.specs.Answers.{floats_code}
use Rattle.draw_floats.specs.Draws.{float_words, MeshLists, DrewWithFloats}
use Rattle.draw_floats.specs.Said.{FloatOf}
use Rattle.draw_floats.proofs.Lists.{counted, word_at, word_small}
use Rattle.draw_floats.proofs.Together.{fits}

-- for each kind of patch
float_of : (p : Patch) (x : ℕ) → x ≤ one p → FloatOf p x (coordinate (one p) x)
float_of (Triangles a b c i) x h = near x h
float_of (Quads a b c d i j) x h = exact x h
float_of (Isolines a b) x h = exact x h

apart : (p : Patch) (x y : ℕ) → x ≤ one p → y ≤ one p → coordinate (one p) x ≡ coordinate (one p) y → x ≡ y
apart (Triangles a b c i) = triangle_apart
apart (Quads a b c d i j) = quad_apart
apart (Isolines a b) = quad_apart

-- the words of point j are number n = 3 * j and the next two
pub point_at : (ps : List Point) (j n : ℕ) → j < length ps → n ≡ 3 * j
    → get_or ps j missing ≡ record { u = get_or (vertex_words ps) n 0; v = get_or (vertex_words ps) (suc n) 0; w = get_or (vertex_words ps) (suc (suc n)) 0 }
unfolding vertex_words
point_at [] j n h e = absurd (omega arith)
point_at (p ∷ ps) zero n h e = let z : n ≡ 0 = omega arith in rw z
point_at (p ∷ ps) (suc j) n h e = let z : n ≡ suc (suc (suc (3 * j))) = omega arith in rw z (point_at ps j (3 * j) (omega arith) refl)

module _ (set : Settings) (p : Patch) (r : Result DrawnCounts FloatsRefusal) {before after : MeshLists} {P I : ℕ}
    (d : DrewWithFloats set p before after r) (e : floats_code r ≡ drew_both P I) where
  pub many : 3 * P ≡ length (point_words set p)
  many = counted set p (fits set p r d e)

  -- word k of the points, as both lists have it
  pub whole : (k : ℕ) → k < 3 * P → get_or after.vertices k 0 ≡ get_or (point_words set p) k 0
  whole = word_at set p (fits set p r d e) (d.vertices ∙ rw e)

  whole_small : (k : ℕ) → k < 3 * P → get_or after.vertices k 0 ≤ one p
  whole_small = word_small set p (fits set p r d e) (d.vertices ∙ rw e)

  -- float k is word k divided
  pub float_at : (k : ℕ) → k < 3 * P → get_or after.floats k nan ≡ coordinate (one p) (get_or after.vertices k 0)
  float_at k h =
      let ws = point_words set p in
      let n : 3 * P ≡ length (float_words set p) = many ∙ sym (length-map ws (coordinate (one p))) in
      let taken : take (3 * P) after.floats ≡ float_words set p = ap (take (3 * P)) (d.floats ∙ rw e) ∙ over_front before.floats (float_words set p) (3 * P) n in
      sym (get_or-take (3 * P) after.floats k nan h) ∙ ap (λ (l : List Float). get_or l k nan) taken
      ∙ get_within (float_words set p) nan (coordinate (one p) 0) k (omega (arith, n))
      ∙ get_or-map (coordinate (one p)) ws k 0 ∙ ap (coordinate (one p)) (sym (whole k h))

  -- so it is exact or near, by the kind of patch
  pub floats_said : (k : ℕ) → k < 3 * P → FloatOf p (get_or after.vertices k 0) (get_or after.floats k nan)
  floats_said k h = rw (float_at k h) (float_of p (get_or after.vertices k 0) (whole_small k h))

  -- equal floats belong to equal words
  same_word : (j k : ℕ) → j < 3 * P → k < 3 * P → get_or after.floats j nan ≡ get_or after.floats k nan → get_or (point_words set p) j 0 ≡ get_or (point_words set p) k 0
  same_word j k h l q =
      sym (whole j h) ∙ apart p (get_or after.vertices j 0) (get_or after.vertices k 0) (whole_small j h) (whole_small k l) (sym (float_at j h) ∙ q ∙ float_at k l) ∙ whole k l

  -- no two points have the same three floats
  pub floats_distinct : (j k : ℕ) → j < P → k < P → get_or after.floats (3 * j) nan ≡ get_or after.floats (3 * k) nan
      → get_or after.floats (suc (3 * j)) nan ≡ get_or after.floats (suc (3 * k)) nan
      → get_or after.floats (suc (suc (3 * j))) nan ≡ get_or after.floats (suc (suc (3 * k))) nan → j ≡ k
  floats_distinct j k h l a b c =
      let ps = points (subdivision_of set p) in
      let g = fits set p r d e in
      let n = words_length ps in
      points_distinct set.spacing set.top (top_as _ g.top) p g.drawn j k (omega (arith, many, n)) (omega (arith, many, n))
      (point_at ps j (3 * j) (omega (arith, many, n)) refl
      ∙ rw (
        same_word (3 * j) (3 * k) (omega arith) (omega arith) a,
        same_word (suc (3 * j)) (suc (3 * k)) (omega arith) (omega arith) b,
        same_word (suc (suc (3 * j))) (suc (suc (3 * k))) (omega arith) (omega arith) c,
      ) (sym (point_at ps k (3 * k) (omega (arith, many, n)) refl)))
