-- Every triangle or quad patch, plain or not, is covered by its triangles, and its outer edges have the places of their levels. Assumes nothing.
use Prim.Native.Nat.{ℕ}
use mathlib.Core.Bool.{Bool}
use mathlib.Core.List.{[], ◌∷◌}
use lib.Ieee.{Float}
use Rattle.level.specs.declared.Spacing.{Spacing}
use Rattle.level.specs.Top.{Top}
use Rattle.level.specs.Segments.{segments_of, inner_segments}
use Rattle.level.proofs.Valid.{segments_valid, inner_valid, inner_two}
use Rattle.edge.specs.Table.{table}
use Rattle.patch.specs.declared.kinds.Patch.{Patch}
use Rattle.patch.specs.declared.kinds.Patch.TheVariants.{Triangles, Quads}
use Rattle.patch.specs.declared.subdivision.Subdivision.{Subdivision}
use Rattle.patch.specs.Subdivide.{cut}
use Rattle.mesh_geometry.specs.Cover.{Cover}
use Rattle.mesh_geometry.specs.Seam.{triangle_edge, quad_edge}
use Rattle.mesh_geometry.specs.Edge.{GoodRun, ring, EdgesPlaced}
use Rattle.mesh_geometry.specs.TrianglePoints.{triangle_place, triangle_corners}
use Rattle.mesh_geometry.specs.QuadPoints.{quad_place, quad_corners}
use Rattle.mesh_geometry.proofs.TrianglePatch.{patch_covers, edges_two}
use Rattle.mesh_geometry.proofs.TrianglePlaces.{patch_places}
use Rattle.mesh_geometry.proofs.QuadPatch.{quad_covers}
use Rattle.mesh_geometry.proofs.QuadPlaces.{quad_places}
use Rattle.mesh_geometry.proofs.Plain.{plain_triangle_covers, plain_triangle_places, plain_quad_covers, plain_quad_places}
use Rattle.patch_mesh.specs.Points.{run, points}
use Rattle.patch_mesh.specs.Primitives.{triangles, primitives}
use Rattle.patch_mesh.specs.Demand.{Surface, outer_runs, outline, edges, twice_area_of}
use Rattle.mesh_geometry.specs.Faces.{faces_in}
use Rattle.mesh_geometry.proofs.ReadBack.{read_faces}
use Rattle.patch_mesh.proofs.Runs.{good_run}
use Rattle.patch_mesh.proofs.Cases.{Cases, drawn_cases}
use Rattle.patch_mesh.proofs.Plain.{plain_outline, plain_placed}

-- the triangles of a subdivision cover its patch, and its outer edges have the places of their levels
pub record Covered (s : Spacing) (t : ℕ) (p : Patch) (c : Subdivision) : Type 0 where
  pub cover : Surface p → (turn : Bool) → Cover turn (twice_area_of p) (outline s t p) (points c) (faces_in (points c) (primitives turn c))
  pub seams : Surface p → EdgesPlaced (edges p) (points c) 0 (outer_runs s t p)

module _ (s : Spacing) (t : ℕ) (top : Top t) where
  outer : (x : Float) → GoodRun (run (segments_of s t x))
  outer x = good_run (segments_of s t x) (segments_valid s t top x)

  inner : (x : Float) → GoodRun (run (inner_segments s t x))
  inner x = good_run (inner_segments s t x) (inner_valid s t top x)

  covers : Cases s t (Covered s t)
  unfolding points triangles ring table
  covers = record {
    triangle = λ a b c i. record {
      cover = λ _ turn. rw read_faces
          (patch_covers _ _ _ _ (outer a) (outer b) (outer c) (inner i)
          (edges_two _ _ _ _ (outer a) (outer b) (outer c) (inner i) (inner_two s t top i)) turn);
      seams = λ _. patch_places _ _ _ _ (outer a) (outer b) (outer c) (inner i);
    };
    plain_triangle = λ a b c i h. record {
      cover = λ _ turn. rw (plain_outline s t top (Triangles a b c i) (i ∷ []) h triangle_place, read_faces) (plain_triangle_covers turn);
      seams = λ _. plain_placed s t top (Triangles a b c i) (i ∷ []) h triangle_edge triangle_corners plain_triangle_places;
    };
    quad = λ a b c d i j. record {
      cover = λ _ turn. rw read_faces
          (quad_covers _ _ _ _ _ _ (outer a) (outer b) (outer c) (outer d) (inner i) (inner j) (inner_two s t top i) (inner_two s t top j) turn);
      seams = λ _. quad_places _ _ _ _ (outer a) (outer b) (outer c) (outer d) _ _ (inner i) (inner j);
    };
    plain_quad_lem = λ a b c d i j h. record {
      cover = λ _ turn. rw (plain_outline s t top (Quads a b c d i j) (i ∷ j ∷ []) h quad_place, read_faces) (plain_quad_covers turn);
      seams = λ _. plain_placed s t top (Quads a b c d i j) (i ∷ j ∷ []) h quad_edge quad_corners plain_quad_places;
    };
    lines = λ a b. record { cover = λ none. absurd none; seams = λ none. absurd none };
  }

  pub covered : (p : Patch) → Covered s t p (cut s t p)
  covered = drawn_cases covers
