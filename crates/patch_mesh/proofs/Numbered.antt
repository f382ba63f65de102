-- Every index of a valid subdivision is the number of one of its points. Assumes nothing.
use Prim.Native.Nat.{ℕ, zero, suc, ◌+◌, ◌*◌, ◌<◌}
use mathlib.Core.Path.{◌≡◌}
use mathlib.Core.Bool.{Bool, true, false}
use mathlib.Core.List.{List, [], ◌∷◌}
use native.Mathlib.Omega.{arith}
use native.Mathlib.Nat.{zero-add, mul-le-mul_right}
use lib.ListN.{length}
use Rattle.buffer.specs.Over.{flat}
use Rattle.strip.specs.declared.triangle.Triangle.{Triangle as Corners}
use Rattle.strip.specs.Triangles.{indices}
use Rattle.mesh_topology.specs.Closes.{CornersWithin}
use Rattle.mesh_topology.specs.Lines.{line_segment, isolines, dots}
use Rattle.mesh_topology.proofs.Nest.{nest_closes}
use Rattle.mesh_topology.proofs.Quad.{quad_closes}
use Rattle.mesh_topology.proofs.Plain.{plain_closes}
use Rattle.patch.specs.declared.settings.Settings.{Settings}
use Rattle.patch.specs.declared.subdivision.Subdivision.{Subdivision}
use Rattle.patch.specs.declared.subdivision.Subdivision.TheVariants.{Discarded, PlainTriangle, Triangle, PlainQuad, Quad, Lines}
use Rattle.patch.specs.Turn.{turn_asked}
use Rattle.mesh_geometry.proofs.Lists.{All, none, more, all_append}
use Rattle.mesh_geometry.proofs.Grid.{grid_length}
use Rattle.mesh_geometry.proofs.TrianglePatch.{patch_length}
use Rattle.mesh_geometry.proofs.QuadPatch.{quad_patch_length}
use Rattle.patch_mesh.specs.Valid.{ValidCut}
use Rattle.patch_mesh.specs.Points.{run, points}
use Rattle.patch_mesh.specs.Primitives.{triangles, primitives, in_mode, index_words}
use Rattle.patch_mesh.proofs.Runs.{valid_edges}

-- all words are below a number
abbrev Below : ℕ → List ℕ → Type 0
Below top ws = All (λ w. w < top) ws

-- the corners of triangles whose vertices are in range
corners_below : (base top : ℕ) (turn : Bool) (ts : List Corners) → CornersWithin base top ts → Below top (indices turn ts)
unfolding indices
corners_below base top turn [] w = none
corners_below base top true (t ∷ ts) w = more w.0.1 (more w.1.1 (more w.2.1 (corners_below base top true ts w.3)))
corners_below base top false (t ∷ ts) w = more w.0.1 (more w.2.1 (more w.1.1 (corners_below base top false ts w.3)))

-- joined pieces
flat_below : (top : ℕ) (f : ℕ → List ℕ) (n i k : ℕ) → i + k ≡ n → ((j : ℕ) → j < n → Below top (f j)) → Below top (flat f i k)
unfolding flat
flat_below top f n i zero e h = none
flat_below top f n i (suc k) e h = all_append _ (h i (omega arith)) (flat_below top f n (i + 1) k (omega arith) h)

dots_below : (p : ℕ) → Below p (dots p)
unfolding dots
dots_below p = flat_below p (λ i. i ∷ []) p 0 p (omega arith) (λ j h. more h none)

isolines_below : (m n : ℕ) → Below (m * suc n) (isolines m n)
unfolding isolines
isolines_below m n =
    flat_below _ _ m 0 m (omega arith) (λ r h.
    let l = mul-le-mul_right (suc n) h in
    flat_below _ (line_segment n r) n 0 n (omega arith) (λ c k. more (omega arith) (more (omega arith) none)))

primitives_below : (turn : Bool) (c : Subdivision) → ValidCut c → Below (length (points c)) (primitives turn c)
unfolding points triangles
primitives_below turn Discarded v = none
primitives_below turn PlainTriangle v = corners_below 0 3 turn _ (omega arith)
primitives_below turn (Triangle a b c i) v =
    rw (patch_length (run a) (run b) (run c) (run i) (valid_edges v))
    (corners_below 0 _ turn _ (rw zero-add at (nest_closes i.count 0 a.count b.count c.count (valid_edges v)).within))
primitives_below turn PlainQuad v = corners_below 0 4 turn _ (plain_closes 0).within
primitives_below turn (Quad a b c d m n) v =
    rw (quad_patch_length (run a) (run b) (run c) (run d) (run m) (run n))
    (corners_below 0 _ turn _
    (rw zero-add at (quad_closes 0 _ _ _ _ _ _ v.edge0.some v.edge1.some v.edge2.some v.edge3.some
    v.rows.two v.columns.two).within))
primitives_below turn (Lines m n) v = rw grid_length (isolines_below m.count n.count)

pub indices_below : (set : Settings) (c : Subdivision) → ValidCut c → All (λ w. w < length (points c)) (index_words set c)
unfolding index_words
indices_below set c v = go set.point_mode
  where
    go : (mode : Bool) → Below (length (points c)) (in_mode mode (turn_asked set) c)
    go false = primitives_below (turn_asked set) c v
    go true = dots_below (length (points c))
