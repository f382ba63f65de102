-- The plain patches: only corners. Assumes nothing.
use mathlib.Core.Path.{refl}
use mathlib.Core.Bool.{Bool}
use mathlib.Core.List.{[], ◌∷◌}
use native.Mathlib.Omega.{arith}
use Rattle.edge.specs.Table.{table}
use Rattle.mesh_topology.specs.Nest.{nest}
use Rattle.mesh_topology.specs.Quad.{plain_quad}
use Rattle.mesh_topology.proofs.Plain.{plain_closes, plain_stokes}
use Rattle.mesh_geometry.specs.Cover.{Cover}
use Rattle.mesh_geometry.specs.Seam.{triangle_edge, quad_edge}
use Rattle.mesh_geometry.specs.Faces.{at, faces_of}
use Rattle.mesh_geometry.specs.Edge.{GoodRun, ends, ring, EdgesPlaced}
use Rattle.mesh_geometry.specs.TrianglePoints.{rings, triangle_area, triangle_corners}
use Rattle.mesh_geometry.specs.QuadPoints.{quad_area, quad_corners}
use Rattle.mesh_geometry.proofs.Lists.{All, none, more}
use Rattle.mesh_geometry.proofs.StripTurns.{Turns}
use Rattle.mesh_geometry.proofs.Outline.{Parts, patch_covered}
use Rattle.mesh_geometry.proofs.TrianglePatch.{patch_covers}
use Rattle.mesh_geometry.proofs.TrianglePlaces.{patch_places}
use Rattle.mesh_geometry.proofs.QuadPlace.{square}
use Rattle.mesh_geometry.proofs.QuadPlaces.{quad_outline_places}

good_ends : GoodRun ends
good_ends = record { first = refl; last = refl; rises = λ i l. omega arith; mirrors = λ i l. omega arith }

pub plain_triangle_covers : (positive : Bool)
    → Cover positive triangle_area triangle_corners triangle_corners (faces_of positive triangle_corners (record { a = 0; b = 1; c = 2 } ∷ []))
unfolding nest rings ring table
plain_triangle_covers = patch_covers ends ends ends ends good_ends good_ends good_ends good_ends (omega arith)

pub plain_triangle_places : EdgesPlaced triangle_edge triangle_corners 0 (ends ∷ ends ∷ ends ∷ [])
unfolding rings ring table
plain_triangle_places = patch_places ends ends ends ends good_ends good_ends good_ends good_ends

pub plain_quad_covers : (positive : Bool) → Cover positive quad_area quad_corners quad_corners (faces_of positive quad_corners (plain_quad 0))
unfolding ring table
plain_quad_covers = patch_covered square made (plain_quad 0) turns (plain_closes 0) (plain_stokes 0)
  where
    made : Parts square 4 (ends ∷ ends ∷ ends ∷ ends ∷ []) []
    made = record {
      each = refl;
      total = refl;
      good = more good_ends (more good_ends (more good_ends (more good_ends none)));
      deep = none;
      distinct = none;
    }

    turns : All (Turns (at quad_corners)) (plain_quad 0)
    turns = more {x = record { a = 0; b = 1; c = 2 }} (omega arith) (more {x = record { a = 0; b = 2; c = 3 }} (omega arith) none)

pub plain_quad_places : EdgesPlaced quad_edge quad_corners 0 (ends ∷ ends ∷ ends ∷ ends ∷ [])
unfolding ring table
plain_quad_places = quad_outline_places ends ends ends ends good_ends good_ends good_ends good_ends [] none
