-- Every drawn point lies in its patch, so no coordinate exceeds 1. Assumes nothing.
use Prim.Native.Nat.{ℕ, zero, suc, ◌+◌, ◌≤◌}
use mathlib.Core.Path.{refl}
use mathlib.Core.List.{List, [], ◌∷◌}
use native.Mathlib.Omega.{arith}
use lib.Ieee.{Float}
use Rattle.level.specs.declared.Spacing.{Spacing}
use Rattle.level.specs.declared.Spacing.TheVariants.{Equal}
use Rattle.level.specs.Top.{Top}
use Rattle.level.specs.Segments.{segments_of, inner_segments}
use Rattle.level.proofs.Valid.{segments_valid, inner_valid}
use Rattle.patch.specs.declared.kinds.Patch.{Patch}
use Rattle.patch.specs.declared.kinds.Patch.TheVariants.{Triangles, Quads, Isolines}
use Rattle.patch.specs.Subdivide.{subdivision}
use Rattle.mesh_geometry.specs.declared.Point.{Point}
use Rattle.mesh_geometry.specs.Edge.{Run, GoodRun, ring}
use Rattle.mesh_geometry.specs.Segmented.{isoline_points}
use Rattle.mesh_geometry.specs.TrianglePoints.{triangle_place, centre, rings, triangle_patch}
use Rattle.mesh_geometry.specs.QuadPoints.{quad_place, quad_patch}
use Rattle.mesh_geometry.proofs.Lists.{All, none, more, all_append, all_more}
use Rattle.mesh_geometry.proofs.Edge.{Span, good_span, good_to}
use Rattle.mesh_geometry.proofs.Ring.{ring_all}
use Rattle.mesh_geometry.proofs.Grid.{grid_all}
use Rattle.mesh_geometry.proofs.Inside.{Inside, good_inside, inside_in, inside_spans}
use Rattle.mesh_geometry.proofs.TrianglePlace.{triangle as triangle-shape}
use Rattle.mesh_geometry.proofs.QuadPlace.{square as square-shape}
use Rattle.mesh_geometry.specs.Words.{vertex_words}
use Rattle.patch_mesh.specs.Points.{run, points}
use Rattle.patch_mesh.proofs.Runs.{good_run}
use Rattle.patch_mesh.proofs.Cases.{Cases, all_cases}
use Rattle.mesh_geometry.specs.Domain.{triangle, square}
use Rattle.patch_mesh.specs.InPatch.{InPatch, domain_of}
use Rattle.patch_mesh.specs.Coordinates.{one, UpTo}

-- triangles, ring by ring
triangle_place_lem : (k x d : ℕ) → d ≤ x → x + d ≤ 65536 → InPatch triangle (triangle_place k x d)
triangle_place_lem zero x d h l = omega arith
triangle_place_lem (suc zero) x d h l = omega arith
triangle_place_lem (suc (suc zero)) x d h l = omega arith
triangle_place_lem (suc (suc (suc k))) x d h l = triangle_place_lem k x d h l

ring_in : (es : List Run) (d : ℕ) → All (Span d) es → All (InPatch triangle) (ring triangle_place 0 es d)
ring_in es d ss = ring_all triangle-shape (InPatch triangle) d (λ k x h l. triangle_place_lem k x d h l) 0 es ss

rings_in : (n : ℕ) (es : List Run) (d : ℕ) (q : ℕ → ℕ) → Inside q n → All (Span d) es → All (InPatch triangle) (rings es d q n)
unfolding rings
rings_in zero es d q v ss = more {x = centre} refl none
rings_in (suc zero) es d q v ss = ring_in es d ss
rings_in (suc (suc r)) es d q v ss =
    let w = inside_in v in
    all_append _ (ring_in es d ss) (rings_in r _ (q 1) (λ i. q (suc i)) w (inside_spans w))

triangle_in : (e0 e1 e2 inside : Run) → GoodRun e0 → GoodRun e1 → GoodRun e2 → GoodRun inside
    → All (InPatch triangle) (triangle_patch e0 e1 e2 inside)
triangle_in e0 e1 e2 inside g0 g1 g2 g =
    rings_in inside.c (e0 ∷ e1 ∷ e2 ∷ []) 0 inside.q (good_inside g) (more (good_span g0) (more (good_span g1) (more (good_span g2) none)))

-- quads: the outline and the grid
quad_place_lem : (k x : ℕ) → x ≤ 65536 → InPatch square (quad_place k x 0)
quad_place_lem zero x l = omega arith
quad_place_lem (suc zero) x l = omega arith
quad_place_lem (suc (suc zero)) x l = omega arith
quad_place_lem (suc (suc (suc zero))) x l = omega arith
quad_place_lem (suc (suc (suc (suc k)))) x l = quad_place_lem k x l

corner : (k : ℕ) → InPatch square (quad_place k 0 0)
corner k = quad_place_lem k 0 (omega arith)

quad_in : (e0 e1 e2 e3 rows columns : Run) → All GoodRun (e0 ∷ e1 ∷ e2 ∷ e3 ∷ []) → GoodRun rows → GoodRun columns
    → All (InPatch square) (quad_patch e0 e1 e2 e3 rows columns)
quad_in e0 e1 e2 e3 rows columns gs gr gc =
    all_append _ (ring_all square-shape (InPatch square) 0 (λ k x h l. quad_place_lem k x (omega arith)) 0 _ (all_more (λ e g. good_span g) gs))
    (grid_all (InPatch square) _ _ _ (λ r c u v. omega (arith, good_to gc (suc c) (omega arith), good_to gr (suc r) (omega arith))))

isolines_in : (lines along : Run) → GoodRun lines → GoodRun along → All (InPatch square) (isoline_points lines along)
isolines_in lines along gl ga = grid_all (InPatch square) _ _ _ (λ r c u v. omega (arith, good_to ga c (omega arith), good_to gl r (omega arith)))

-- no coordinate of a point in a patch exceeds 1
in_up_to : (p : Patch) (x : Point) → InPatch (domain_of p) x → UpTo (one p) x
in_up_to (Triangles a b c i) x h = omega arith
in_up_to (Quads a b c d i j) x h = omega arith
in_up_to (Isolines a b) x h = omega arith

words_to : {n : ℕ} {ps : List Point} → All (UpTo n) ps → All (λ w. w ≤ n) (vertex_words ps)
unfolding vertex_words
words_to none = none
words_to (more h hs) = more h.u (more h.v (more h.w (words_to hs)))

module _ (s : Spacing) (t : ℕ) (top : Top t) where
  outer : (x : Float) → GoodRun (run (segments_of s t x))
  outer x = good_run (segments_of s t x) (segments_valid s t top x)

  inner : (x : Float) → GoodRun (run (inner_segments s t x))
  inner x = good_run (inner_segments s t x) (inner_valid s t top x)

  each : Cases s t (λ p c. All (InPatch (domain_of p)) (points c))
  unfolding points
  each = record {
    triangle = λ a b c i. triangle_in _ _ _ _ (outer a) (outer b) (outer c) (inner i);
    plain_triangle = λ a b c i h. more refl (more refl (more refl none));
    quad = λ a b c d i j. quad_in _ _ _ _ _ _ (more (outer a) (more (outer b) (more (outer c) (more (outer d) none)))) (inner i) (inner j);
    plain_quad_lem = λ a b c d i j h. more (corner 0) (more (corner 1) (more (corner 2) (more (corner 3) none)));
    lines = λ a b. isolines_in _ _ (good_run (segments_of Equal t a) (segments_valid Equal t top a)) (outer b);
  }

  -- for every patch and setting; a discarded patch has no points
  pub drawn_in : (p : Patch) → All (InPatch (domain_of p)) (points (subdivision s t p))
  unfolding points
  drawn_in = all_cases each (λ p. none)

  -- no coordinate exceeds 196,608 on a triangle patch, or 65,536 on quads and isolines
  pub points_up_to : (p : Patch) → All (UpTo (one p)) (points (subdivision s t p))
  points_up_to p = all_more (in_up_to p) (drawn_in p)

  -- the same for their words
  pub words_up_to : (p : Patch) → All (λ w. w ≤ one p) (vertex_words (points (subdivision s t p)))
  words_up_to p = words_to (points_up_to p)
