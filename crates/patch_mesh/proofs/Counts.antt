-- The lists of points and indices are as long as the closed forms say. Assumes nothing.
use mathlib.Core.Path.{◌≡◌, refl, ◌∙◌}
use mathlib.Core.Bool.{Bool, true, false}
use native.Mathlib.Omega.{arith}
use lib.ListN.{length}
use Rattle.strip.proofs.Strips.{indices_length}
use Rattle.mesh_topology.proofs.Length.{nest_length, quad_length, isolines_length, dots_length}
use Rattle.patch.specs.declared.settings.Settings.{Settings}
use Rattle.patch.specs.declared.subdivision.Subdivision.{Subdivision}
use Rattle.patch.specs.declared.subdivision.Subdivision.TheVariants.{Discarded, PlainTriangle, Triangle, PlainQuad, Quad, Lines}
use Rattle.patch.specs.Turn.{turn_asked}
use Rattle.mesh_geometry.proofs.Grid.{grid_length}
use Rattle.mesh_geometry.proofs.TrianglePatch.{patch_length}
use Rattle.mesh_geometry.proofs.QuadPatch.{quad_patch_length}
use Rattle.patch_mesh.specs.Valid.{ValidCut}
use Rattle.patch_mesh.specs.Points.{run, points}
use Rattle.patch_mesh.specs.Primitives.{triangles, primitives, in_mode, index_words}
use Rattle.patch_mesh.specs.Counts.{point_count, primitive_count, count_in, index_count}
use Rattle.patch_mesh.proofs.Runs.{valid_edges}
use Rattle.patch_mesh.proofs.Inside.{nest_points, nest_triangles}

pub point_count_lem : (c : Subdivision) → ValidCut c → length (points c) ≡ point_count c
unfolding points point_count
point_count_lem Discarded v = refl
point_count_lem PlainTriangle v = refl
point_count_lem (Triangle a b c i) v =
    patch_length (run a) (run b) (run c) (run i) (valid_edges v) ∙ nest_points a.count b.count c.count i.count v.inside.two
point_count_lem PlainQuad v = refl
point_count_lem (Quad a b c d m n) v = quad_patch_length (run a) (run b) (run c) (run d) (run m) (run n)
point_count_lem (Lines m n) v = simp grid_length (omega arith)

pub primitive_count_lem : (turn : Bool) (c : Subdivision) → ValidCut c → length (primitives turn c) ≡ primitive_count c
unfolding triangles primitive_count
primitive_count_lem turn Discarded v = refl
primitive_count_lem turn PlainTriangle v = indices_length turn _
primitive_count_lem turn (Triangle a b c i) v =
    simp (indices_length, nest_length, nest_triangles a.count b.count c.count i.count v.inside.two)
primitive_count_lem turn PlainQuad v = indices_length turn _
primitive_count_lem turn (Quad a b c d m n) v = simp (indices_length, quad_length)
primitive_count_lem turn (Lines m n) v = simp isolines_length (omega arith)

pub index_count_lem : (set : Settings) (c : Subdivision) → ValidCut c → length (index_words set c) ≡ index_count set c
unfolding index_words
index_count_lem set c v = go set.point_mode
  where
    go : (mode : Bool) → length (in_mode mode (turn_asked set) c) ≡ count_in mode c
    go false = primitive_count_lem (turn_asked set) c v
    go true = dots_length (length (points c)) ∙ point_count_lem c v
