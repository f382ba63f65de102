-- Two outer edges with the same spacing, level and top level have the same places in any two drawn patches, so no gap opens
-- between them. Assumes nothing.
use Prim.Native.Nat.{ℕ, zero, suc, ◌+◌, ◌<◌}
use mathlib.Core.Path.{◌≡◌, sym, ap, ap₂, ◌∙◌}
use mathlib.Core.Bool.{false}
use mathlib.Core.List.{List, [], ◌∷◌}
use native.Mathlib.Omega.{arith}
use lib.ListN.{length, get_or, length-map, get_or-map}
use lib.Ieee.{Float, nan}
use Rattle.level.specs.Top.{Top}
use Rattle.level.specs.Segments.{segments_of}
use Rattle.patch.specs.declared.kinds.Patch.{Patch}
use Rattle.patch.specs.declared.settings.Settings.{Settings}
use Rattle.patch.specs.Subdivide.{outer_levels, discards, subdivision_of}
use Rattle.mesh_geometry.specs.declared.Point.{Point}
use Rattle.mesh_geometry.specs.Seam.{OuterEdge, places}
use Rattle.mesh_geometry.specs.Edge.{Run, along, EdgesPlaced}
use Rattle.patch_mesh.specs.Points.{run, points}
use Rattle.patch_mesh.specs.Demand.{Surface, outer_level, outer_runs, edges, Demand}
use Rattle.patch_mesh.proofs.Demand.{demand}

placed_at : (edge : ℕ → OuterEdge) (ps : List Point) (d : Run) (n j : ℕ) (es : List Run) → EdgesPlaced edge ps j es
    → (k : ℕ) → k < length es → j + k ≡ n → places (edge n) ps ≡ along (get_or es k d)
placed_at edge ps d n j [] p k h e = absurd (omega arith)
placed_at edge ps d n j (r ∷ es) p zero h e =
    let here : n ≡ j = omega arith in
    rw here p.0
placed_at edge ps d n j (r ∷ es) p (suc k) h e = placed_at edge ps d n (suc j) es p.2 k (omega arith) (omega arith)

-- the places along an outer edge depend on its spacing, its own level and the top level alone
pub seam : {set : Settings} {p : Patch} {ps : List Point} {ws : List ℕ} → Demand set p ps ws → Surface p
    → (k : ℕ) → k < length (outer_levels p) → places (edges p k) ps ≡ along (run (segments_of set.spacing set.top (outer_level p k)))
seam {set} {p} {ps} d f k h =
    let g : Float → Run = λ x. run (segments_of set.spacing set.top x) in
    placed_at (edges p) ps (g nan) k 0 (outer_runs set.spacing set.top p) (d.seams f) k (omega (arith, length-map (outer_levels p) g)) (omega arith)
    ∙ ap along (get_or-map g (outer_levels p) k nan)

pub same_places : {set set' : Settings} {p p' : Patch} {ps ps' : List Point} {ws ws' : List ℕ} → Demand set p ps ws → Demand set' p' ps' ws'
    → Surface p → Surface p' → (k k' : ℕ) → k < length (outer_levels p) → k' < length (outer_levels p')
    → set.spacing ≡ set'.spacing → set.top ≡ set'.top → outer_level p k ≡ outer_level p' k'
    → places (edges p k) ps ≡ places (edges p' k') ps'
same_places {set} {set'} {p} {p'} d d' f f' k k' h h' s t e =
    seam d f k h ∙ ap₂ (λ y n. along (run (segments_of y n (outer_level p k)))) s t ∙ ap (λ (x : Float). along (run (segments_of set'.spacing set'.top x))) e
    ∙ sym (seam d' f' k' h')

pub same_seams : (set set' : Settings) → Top set.top → Top set'.top → (p p' : Patch) → discards p ≡ false → discards p' ≡ false
    → Surface p → Surface p' → (k k' : ℕ) → k < length (outer_levels p) → k' < length (outer_levels p')
    → set.spacing ≡ set'.spacing → set.top ≡ set'.top → outer_level p k ≡ outer_level p' k'
    → places (edges p k) (points (subdivision_of set p)) ≡ places (edges p' k') (points (subdivision_of set' p'))
same_seams set set' top top' p p' a a' = same_places (demand set top p a) (demand set' top' p' a')
