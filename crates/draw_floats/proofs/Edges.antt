-- The floats along the outer edges: two edges with the same places have the same floats. Assumes nothing.
use Prim.Native.Nat.{ℕ, zero, suc, ◌+◌, ◌-◌, ◌*◌, ◌<◌}
use mathlib.Core.Path.{◌≡◌, refl, sym, ap, subst, ◌∙◌}
use mathlib.Core.Bool.{true}
use mathlib.Core.List.{List, [], ◌∷◌, map, reverse, reverse_aux}
use native.Mathlib.Omega.{arith}
use lib.Ieee.{Float, nan}
use lib.ListN.{length, take, get_or}
use Rattle.level.specs.Top.{Top}
use Rattle.level.proofs.Valid.{segments_valid}
use Rattle.patch.specs.declared.kinds.Patch.{Patch}
use Rattle.patch.specs.declared.kinds.Patch.TheVariants.{Triangles, Quads, Isolines}
use Rattle.patch.specs.declared.settings.Settings.{Settings}
use Rattle.patch.specs.Subdivide.{outer_levels, subdivision_of}
use Rattle.mesh_geometry.specs.declared.Point.{Point}
use Rattle.mesh_geometry.specs.Cover.{missing}
use Rattle.mesh_geometry.specs.Seam.{places, Mirrors}
use Rattle.mesh_geometry.specs.Words.{vertex_words, read_points}
use Rattle.mesh_geometry.proofs.Along.{good_mirrors}
use Rattle.mesh_geometry.proofs.Lists.{all_at}
use Rattle.mesh_geometry.proofs.Words.{words_length}
use Rattle.patch_mesh.specs.Points.{points}
use Rattle.patch_mesh.specs.Coordinates.{one}
use Rattle.patch_mesh.specs.Demand.{Surface, outer_level, edges, Demand}
use Rattle.patch_mesh.proofs.Runs.{good_run}
use Rattle.patch_mesh.proofs.Seams.{seam}
use Rattle.std.proofs.Common.{Result, Ok}
use Rattle.measure.specs.declared.size.DrawnCounts.{DrawnCounts}
use Rattle.level.proofs.Top.{top_as}
use Rattle.tessellate.proofs.Together.{points_drawn}
use Rattle.coordinate.specs.Coordinate.{coordinate}
use Rattle.draw_floats.specs.declared.refusal.FloatsRefusal.{FloatsRefusal}
use Rattle.answer_codes.specs.AnswerCode.{drew_both}
use Rattle.draw_floats.specs.Answers.{floats_code}
use Rattle.draw_floats.specs.Draws.{MeshLists, DrewWithFloats}
use Rattle.draw_floats.specs.Edges.{axis, in_rising_order, edge_float, floats_along, SameKind}
use Rattle.draw_floats.proofs.Together.{fits, as_points}
use Rattle.draw_floats.proofs.Floats.{point_at, many, whole, float_at}
use Rattle.draw_floats.proofs.OnEdges.{part, points_on}

-- ---- one edge
-- an axis is below 3
axis_below : (p : Patch) (k : ℕ) → axis p k < 3
axis_below (Triangles a b c i) zero = omega arith
axis_below (Triangles a b c i) (suc zero) = omega arith
axis_below (Triangles a b c i) (suc (suc k)) = omega arith
axis_below (Quads a b c d i j) zero = omega arith
axis_below (Quads a b c d i j) (suc zero) = omega arith
axis_below (Quads a b c d i j) (suc (suc zero)) = omega arith
axis_below (Quads a b c d i j) (suc (suc (suc k))) = omega arith
axis_below (Isolines a b) k = omega arith

-- a word of point j
word_of : (ps : List Point) (n j : ℕ) → n < 3 → j < length ps → get_or (vertex_words ps) (n + 3 * j) 0 ≡ part n (get_or ps j missing)
word_of ps zero j h l =
    let z : 0 + 3 * j ≡ 3 * j = omega arith in
    rw z (ap (λ (q : Point). q.u) (sym (point_at ps j (3 * j) l refl)))
word_of ps (suc zero) j h l =
    let z : 1 + 3 * j ≡ suc (3 * j) = omega arith in
    rw z (ap (λ (q : Point). q.v) (sym (point_at ps j (3 * j) l refl)))
word_of ps (suc (suc zero)) j h l =
    let z : 2 + 3 * j ≡ suc (suc (3 * j)) = omega arith in
    rw z (ap (λ (q : Point). q.w) (sym (point_at ps j (3 * j) l refl)))
word_of ps (suc (suc (suc n))) j h l = absurd (omega arith)

module _ (set : Settings) (p : Patch) (r : Result DrawnCounts FloatsRefusal) {before after : MeshLists} {P I : ℕ}
    (d : DrewWithFloats set p before after r) (e : floats_code r ≡ drew_both P I) where
  abbrev drawn : List Point
  drawn = points (subdivision_of set p)

  at_place : Surface p → (k j : ℕ) → j < P → (edges p k).on (get_or drawn j missing) ≡ true
      → get_or after.floats (axis p k + 3 * j) nan ≡ edge_float p k ((edges p k).along (get_or drawn j missing))
  at_place s k j h on =
      let n = words_length drawn in
      let m = many set p r d e in
      let a = axis_below p k in
      let l : j < length drawn = omega arith in
      let b : axis p k + 3 * j < 3 * P = omega arith in
      float_at set p r d e (axis p k + 3 * j) b
      ∙ ap (coordinate (one p)) (whole set p r d e (axis p k + 3 * j) b ∙ word_of drawn (axis p k) j a l
      ∙ all_at missing j l (points_on set.spacing set.top (top_as _ (fits set p r d e).top) p s) k on)

  -- the float of a point on outer edge k is that of its place, both read from the lists
  pub edge_float_lem : Surface p → (k j : ℕ) → j < P → (edges p k).on (get_or (read_points (take (3 * P) after.vertices)) j missing) ≡ true
      → get_or after.floats (axis p k + 3 * j) nan ≡ edge_float p k ((edges p k).along (get_or (read_points (take (3 * P) after.vertices)) j missing))
  edge_float_lem = rw (points_drawn set p (Ok P) (as_points set p r d e) refl).2 at_place

-- ---- two edges
map_reverse_aux : {A B : Type 0} (g : A → B) (xs ys : List A) → map g (reverse_aux xs ys) ≡ reverse_aux (map g xs) (map g ys)
map_reverse_aux g [] ys = refl
map_reverse_aux g (x ∷ xs) ys = map_reverse_aux g xs (x ∷ ys)

map_map : {A B C : Type 0} (g : B → C) (h : A → B) (xs : List A) → map g (map h xs) ≡ map (λ x. g (h x)) xs
map_map g h [] = refl
map_map g h (x ∷ xs) = ap (λ l. g (h x) ∷ l) (map_map g h xs)

-- falling floats in reverse order
mirrored : (qs : List ℕ) → Mirrors qs → reverse (map (λ x. coordinate 65536 (65536 - x)) qs) ≡ map (coordinate 65536) qs
mirrored qs m =
    sym (map_reverse_aux (λ x. coordinate 65536 (65536 - x)) qs []) ∙ sym (map_map (coordinate 65536) (λ x. 65536 - x) (reverse qs)) ∙ ap (map (coordinate 65536)) m

-- the floats of a quad patch depend on the places alone, for every edge
quad_along : (a b c d i j : Float) (k : ℕ) (qs : List ℕ) → Mirrors qs
    → in_rising_order (Quads a b c d i j) k (map (edge_float (Quads a b c d i j) k) qs) ≡ map (coordinate 65536) qs
quad_along a b c d i j zero qs m = mirrored qs m
quad_along a b c d i j (suc zero) qs m = refl
quad_along a b c d i j (suc (suc zero)) qs m = refl
quad_along a b c d i j (suc (suc (suc k))) qs m = mirrored qs m

by_places : (p p' : Patch) → SameKind p p' → (k k' : ℕ) (qs qs' : List ℕ) → Mirrors qs → qs ≡ qs'
    → in_rising_order p k (map (edge_float p k) qs) ≡ in_rising_order p' k' (map (edge_float p' k') qs')
by_places (Triangles a b c i) (Triangles a' b' c' i') s k k' qs qs' m e = ap (map (λ x. coordinate 196608 (3 * x))) e
by_places (Quads a b c d i j) (Quads a' b' c' d' i' j') s k k' qs qs' m e =
    quad_along a b c d i j k qs m ∙ ap (map (coordinate 65536)) e ∙ sym (quad_along a' b' c' d' i' j' k' qs' (subst Mirrors e m))
by_places (Isolines a b) (Isolines a' b') s k k' qs qs' m e = ap (map (coordinate 65536)) e
by_places (Triangles a b c i) (Quads a' b' c' d' i' j') s k k' qs qs' m e = absurd (omega arith)
by_places (Triangles a b c i) (Isolines a' b') s k k' qs qs' m e = absurd (omega arith)
by_places (Quads a b c d i j) (Triangles a' b' c' i') s k k' qs qs' m e = absurd (omega arith)
by_places (Quads a b c d i j) (Isolines a' b') s k k' qs qs' m e = absurd (omega arith)
by_places (Isolines a b) (Triangles a' b' c' i') s k k' qs qs' m e = absurd (omega arith)
by_places (Isolines a b) (Quads a' b' c' d' i' j') s k k' qs qs' m e = absurd (omega arith)

-- two outer edges with the same places, of two patches of one kind or of one patch, have the same floats along them
pub same_floats : {set : Settings} {p : Patch} {ps : List Point} {ws : List ℕ} → Top set.top → Demand set p ps ws → Surface p
    → (p' : Patch) (ps' : List Point) → SameKind p p' → (k k' : ℕ) → k < length (outer_levels p) → places (edges p k) ps ≡ places (edges p' k') ps' → floats_along p k ps ≡ floats_along p' k' ps'
same_floats {set} {p} {ps} top d f p' ps' s k k' h e =
    let g = good_run _ (segments_valid set.spacing set.top top (outer_level p k)) in
    by_places p p' s k k' (places (edges p k) ps) (places (edges p' k') ps') (rw (seam d f k h) (good_mirrors g)) e
