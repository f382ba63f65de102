-- The triangles of a triangle patch cover it. Assumes nothing.
use Prim.Native.Nat.{ℕ, zero, suc, ◌+◌, ◌≤◌}
use mathlib.Core.Path.{◌≡◌, refl}
use mathlib.Core.Bool.{Bool}
use mathlib.Core.List.{[], ◌∷◌}
use native.Mathlib.Omega.{arith}
use native.Mathlib.Nat.{zero-add}
use lib.ListN.{length}
use Rattle.mesh_topology.specs.Nest.{nest, nest_vertices, Edges}
use Rattle.mesh_topology.proofs.Nest.{nest_closes, nest_stokes}
use Rattle.mesh_geometry.specs.Cover.{Cover}
use Rattle.mesh_geometry.specs.Faces.{at, faces_of}
use Rattle.mesh_geometry.specs.Edge.{Run, GoodRun, ring}
use Rattle.mesh_geometry.specs.TrianglePoints.{triangle_place, triangle_patch, triangle_area}
use Rattle.mesh_geometry.proofs.Lists.{none, more}
use Rattle.mesh_geometry.proofs.Edge.{good_span, good_some}
use Rattle.mesh_geometry.proofs.Outline.{Parts, patch_covered}
use Rattle.mesh_geometry.proofs.Inside.{good_inside}
use Rattle.mesh_geometry.proofs.TrianglePlace.{triangle}
use Rattle.mesh_geometry.proofs.TriangleRings.{Front, rings_front, rings_length}
use Rattle.mesh_geometry.proofs.TriangleTurns.{nest_turns}

-- the number of points
pub patch_length : (e0 e1 e2 inside : Run) → Edges e0.c e1.c e2.c inside.c
    → length (triangle_patch e0 e1 e2 inside) ≡ nest_vertices e0.c e1.c e2.c inside.c
patch_length e0 e1 e2 inside = rings_length inside.c e0 e1 e2 0 inside.q

module _ (e0 e1 e2 inside : Run) (g0 : GoodRun e0) (g1 : GoodRun e1) (g2 : GoodRun e2) (g : GoodRun inside) where
  pub front : Front (e0 ∷ e1 ∷ e2 ∷ []) 0 (triangle_patch e0 e1 e2 inside)
  front = rings_front inside.c (e0 ∷ e1 ∷ e2 ∷ []) 0 inside.q (good_inside g) g.first (good_some g)

  made : Parts triangle (e0.c + e1.c + e2.c) (e0 ∷ e1 ∷ e2 ∷ []) front.rest
  made = record {
    each = refl;
    total = omega arith;
    good = more g0 (more g1 (more g2 none));
    deep = front.deep;
    distinct = front.distinct;
  }

  pub patch_covers : Edges e0.c e1.c e2.c inside.c → (positive : Bool)
      → Cover positive triangle_area (ring triangle_place 0 (e0 ∷ e1 ∷ e2 ∷ []) 0) (triangle_patch e0 e1 e2 inside)
      (faces_of positive (triangle_patch e0 e1 e2 inside) (nest 0 e0.c e1.c e2.c inside.c))
  patch_covers e b =
      let is = front.is in
      rw is
      (patch_covered triangle made (nest 0 e0.c e1.c e2.c inside.c)
      (rw is at (nest_turns (at (triangle_patch e0 e1 e2 inside)) inside.c 0 e0 e1 e2 0 inside.q (good_inside g) g.first
      (more (good_span g0) (more (good_span g1) (more (good_span g2) none))) e (λ k. rw (zero-add k))))
      (rw (← is, patch_length e0 e1 e2 inside e)
      (rw (zero-add (nest_vertices e0.c e1.c e2.c inside.c)) at (nest_closes inside.c 0 e0.c e1.c e2.c e)))
      (nest_stokes inside.c 0 e0.c e1.c e2.c e) b)

  -- any outer edges go with an inner level of at least 2 segments
  pub edges_two : 2 ≤ inside.c → Edges e0.c e1.c e2.c inside.c
  edges_two = go inside.c
    where
      go : (n : ℕ) → 2 ≤ n → Edges e0.c e1.c e2.c n
      go zero h = absurd (omega arith)
      go (suc zero) h = absurd (omega arith)
      go (suc (suc r)) h = (good_some g0, good_some g1, good_some g2)
