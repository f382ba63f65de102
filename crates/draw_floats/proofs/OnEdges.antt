-- The coordinate that changes along an outer edge follows from the point's place on the edge. Assumes nothing.
use Prim.Native.Nat.{ℕ, zero, suc, ◌*◌, ◌/◌, ◌≤◌, ◌<◌}
use mathlib.Core.Path.{◌≡◌, refl, sym, subst}
use mathlib.Core.Bool.{true}
use native.Mathlib.Omega.{arith}
use lib.Dec.{T, eqb, eqb→eq}
use lib.Ieee.{Float}
use Rattle.level.specs.declared.Spacing.{Spacing}
use Rattle.level.specs.Top.{Top}
use Rattle.level.specs.Segments.{segments_of, inner_segments}
use Rattle.level.proofs.Valid.{segments_valid, inner_valid}
use Rattle.patch.specs.declared.kinds.Patch.{Patch}
use Rattle.patch.specs.declared.kinds.Patch.TheVariants.{Triangles, Quads, Isolines}
use Rattle.patch.specs.Subdivide.{subdivision}
use Rattle.mesh_geometry.specs.declared.Point.{Point}
use Rattle.mesh_geometry.specs.Edge.{Run, GoodRun}
use Rattle.mesh_geometry.specs.TrianglePoints.{triangle_place, triangle_patch}
use Rattle.mesh_geometry.proofs.Lists.{All, none, more, all_append, all_more}
use Rattle.mesh_geometry.proofs.Edge.{good_span}
use Rattle.mesh_geometry.proofs.Ring.{ring_all}
use Rattle.mesh_geometry.proofs.TrianglePlace.{triangle as triangle-shape, least}
use Rattle.mesh_geometry.proofs.TrianglePatch.{front}
use Rattle.patch_mesh.specs.Points.{run, points}
use Rattle.patch_mesh.specs.Coordinates.{one, UpTo}
use Rattle.patch_mesh.specs.Demand.{Surface, edges}
use Rattle.patch_mesh.proofs.Runs.{good_run}
use Rattle.patch_mesh.proofs.Cases.{Cases, all_cases}
use Rattle.patch_mesh.proofs.InPatch.{points_up_to}
use Rattle.draw_floats.specs.Edges.{axis, at_place}

-- a coordinate of a point by its number
abbrev pub part : ℕ → Point → ℕ
part zero q = q.u
part (suc zero) q = q.v
part (suc (suc n)) q = q.w

-- for each outer edge on which the point lies
abbrev pub OnEdges : Patch → Point → Type 0
OnEdges p q = (k : ℕ) → (edges p k).on q ≡ true → part (axis p k) q ≡ at_place p k ((edges p k).along q)

is_zero : (n : ℕ) → eqb n 0 ≡ true → n ≡ 0
is_zero n e = eqb→eq n 0 (subst T (sym e) tt)

-- triangles: all coordinates of points on the outline are multiples of three
record Thirds (q : Point) : Type 0 where
  pub u : 3 * (q.u / 3) ≡ q.u
  pub v : 3 * (q.v / 3) ≡ q.v
  pub w : 3 * (q.w / 3) ≡ q.w

thirds : (k x : ℕ) → x ≤ 65536 → Thirds (triangle_place k x 0)
thirds zero x h = omega arith
thirds (suc zero) x h = omega arith
thirds (suc (suc zero)) x h = omega arith
thirds (suc (suc (suc k))) x h = thirds k x h

module _ (a b c i : Float) where
  outlined : (q : Point) → Thirds q → OnEdges (Triangles a b c i) q
  outlined q t zero e = sym t.w
  outlined q t (suc zero) e = sym t.u
  outlined q t (suc (suc k)) e = sym t.v

  -- an inner point lies on no edge
  inside : (q : Point) → 0 < least q → OnEdges (Triangles a b c i) q
  inside q h zero e = absurd (omega (arith, is_zero q.u e))
  inside q h (suc zero) e = absurd (omega (arith, is_zero q.v e))
  inside q h (suc (suc k)) e = absurd (omega (arith, is_zero q.w e))

  triangle_on : (e0 e1 e2 within : Run) → GoodRun e0 → GoodRun e1 → GoodRun e2 → GoodRun within
      → All (OnEdges (Triangles a b c i)) (triangle_patch e0 e1 e2 within)
  triangle_on e0 e1 e2 within g0 g1 g2 g =
      let f = front e0 e1 e2 within g0 g1 g2 g in
      rw f.is (all_append f.rest
      (ring_all triangle-shape (OnEdges (Triangles a b c i)) 0 (λ k x h l. outlined (triangle_place k x 0) (thirds k x (omega arith))) 0 _
      (more (good_span g0) (more (good_span g1) (more (good_span g2) none))))
      (all_more inside f.deep))

  corner_on : (k : ℕ) → OnEdges (Triangles a b c i) (triangle_place k 0 0)
  corner_on k = outlined (triangle_place k 0 0) (thirds k 0 (omega arith))

-- quads: the coordinate is at most 65,536
quad_on : (a b c d i j : Float) (q : Point) → UpTo 65536 q → OnEdges (Quads a b c d i j) q
quad_on a b c d i j q h zero e = omega (arith, h.v)
quad_on a b c d i j q h (suc zero) e = omega arith
quad_on a b c d i j q h (suc (suc zero)) e = omega arith
quad_on a b c d i j q h (suc (suc (suc k))) e = omega (arith, h.u)

module _ (s : Spacing) (t : ℕ) (top : Top t) where
  outer : (x : Float) → GoodRun (run (segments_of s t x))
  outer x = good_run (segments_of s t x) (segments_valid s t top x)

  inner : (x : Float) → GoodRun (run (inner_segments s t x))
  inner x = good_run (inner_segments s t x) (inner_valid s t top x)

  triangles_on : Cases s t (λ p c. one p ≡ 196608 → All (OnEdges p) (points c))
  unfolding points
  triangles_on = record {
    triangle = λ a b c i e. triangle_on a b c i _ _ _ _ (outer a) (outer b) (outer c) (inner i);
    plain_triangle = λ a b c i h e. more (corner_on a b c i 0) (more (corner_on a b c i 1) (more (corner_on a b c i 2) none));
    quad = λ a b c d i j e. absurd (omega arith);
    plain_quad_lem = λ a b c d i j h e. absurd (omega arith);
    lines = λ a b e. absurd (omega arith);
  }

  pub points_on : (p : Patch) → Surface p → All (OnEdges p) (points (subdivision s t p))
  unfolding points
  points_on (Triangles a b c i) f = all_cases triangles_on (λ p e. none) (Triangles a b c i) refl
  points_on (Quads a b c d i j) f = all_more (quad_on a b c d i j) (points_up_to s t top (Quads a b c d i j))
  points_on (Isolines a b) f = absurd f
