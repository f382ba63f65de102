-- Cover and seams of a list of all points of a patch, whatever call wrote it: the law that every drawing call uses. Assumes nothing.
use Prim.Native.Nat.{ℕ, zero, suc, ◌+◌, ◌<◌}
use mathlib.Core.Path.{◌≡◌, sym, ◌∙◌}
use mathlib.Core.Bool.{Bool, false}
use mathlib.Core.List.{List, [], ◌∷◌}
use native.Mathlib.Omega.{arith}
use lib.ListN.{length, length-map}
use lib.Ieee.{Float}
use Rattle.level.specs.Top.{Top}
use Rattle.level.specs.Segments.{segments_of}
use Rattle.patch.specs.declared.kinds.Patch.{Patch}
use Rattle.patch.specs.declared.settings.Settings.{Settings}
use Rattle.patch.specs.Subdivide.{outer_levels, discards, subdivision_of}
use Rattle.mesh_geometry.specs.declared.Point.{Point}
use Rattle.mesh_geometry.specs.Cover.{Face, Cover, sides, piece}
use Rattle.mesh_geometry.specs.Seam.{OuterEdge, places, Mirrors}
use Rattle.mesh_geometry.specs.Edge.{Run, EdgesPlaced}
use Rattle.patch_mesh.specs.Points.{run, points}
use Rattle.patch_mesh.specs.Primitives.{index_words}
use Rattle.patch_mesh.specs.Demand.{Surface, outer_runs, edges, Demand}
use Rattle.patch_mesh.proofs.Demand.{demand}
use Rattle.patch_mesh.proofs.Seams.{seam, same_places}
use Rattle.third_demand.specs.Seams.{IsEdge, EdgesAlike, places_on, edge_places, Seam}
use Rattle.third_demand.specs.ThirdDemand.{OccursOnce, ThirdDemand}

-- the patch is drawn, and ps are all its points
pub record AllPoints (set : Settings) (p : Patch) (ps : List Point) : Type 0 where
  pub top : Top set.top
  pub drawn : discards p ≡ false
  pub are : ps ≡ points (subdivision_of set p)

-- the places on edge n mirror
mirrors_at : (edge : ℕ → OuterEdge) (ps : List Point) (n j : ℕ) (es : List Run) → EdgesPlaced edge ps j es → (k : ℕ) → k < length es → j + k ≡ n
    → Mirrors (places (edge n) ps)
mirrors_at edge ps n j [] p k h e = absurd (omega arith)
mirrors_at edge ps n j (r ∷ es) p zero h e =
    let here : n ≡ j = omega arith in
    rw (here, p.0) p.1
mirrors_at edge ps n j (r ∷ es) p (suc k) h e = mirrors_at edge ps n (suc j) es p.2 k (omega arith) (omega arith)

module _ {set : Settings} {p : Patch} {ps : List Point} where
  -- demand 3 with the index words of the definition; seams need no indices
  pub all_demand : AllPoints set p ps → Demand set p ps (index_words set (subdivision_of set p))
  all_demand a = rw a.are (demand set a.top p a.drawn)

  pub edge_places_lem : AllPoints set p ps → (k : ℕ) → IsEdge p k → places_on p k ps ≡ edge_places set p k
  edge_places_lem a k e = seam (all_demand a) e.surface k e.number

  pub edge_mirrors : AllPoints set p ps → (k : ℕ) → IsEdge p k → Mirrors (places_on p k ps)
  edge_mirrors a k e =
      mirrors_at (edges p) ps k 0 (outer_runs set.spacing set.top p) ((all_demand a).seams e.surface) k
      (omega (arith, e.number, length-map (outer_levels p) (λ (x : Float). run (segments_of set.spacing set.top x)))) (omega arith)

-- two edges with the same spacing, level and top level
pub seam_between : {set set' : Settings} {p p' : Patch} {ps ps' : List Point} → AllPoints set p ps → AllPoints set' p' ps' → (j k : ℕ) → IsEdge p j → IsEdge p' k
    → EdgesAlike set set' p p' j k → Seam set p p' j k ps ps'
seam_between a b j k e f h = record {
  same = same_places (all_demand a) (all_demand b) e.surface f.surface j k e.number f.number h.spacing h.top h.level;
  places = edge_places_lem a j e;
  mirrors = edge_mirrors a j e;
}

-- a piece of the outline is a side exactly once, as no side occurs twice
once : {positive : Bool} {area : ℕ} {outline ps : List Point} {ts : List Face} → Cover positive area outline ps ts
    → (k : ℕ) → k < length outline → OccursOnce (piece positive outline k) (sides ts)
once c k h =
    let o = c.outlined k h in
    record { number = o.0; below = o.1; here = o.2; alone = λ j b e. c.single j o.0 b o.1 (e ∙ sym o.2) }

-- the third demand, for any calls that draw all points
pub demand_of : (Drew : Settings → Patch → List Point → Type 0) → ((set' : Settings) (p' : Patch) (ps' : List Point) → Drew set' p' ps' → AllPoints set' p' ps')
    → {set : Settings} {p : Patch} {ps : List Point} {ws : List ℕ} → Surface p → AllPoints set p ps → Demand set p ps ws → ThirdDemand Drew set p ps ws
demand_of Drew all f a d = record {
  numbered = d.numbered;
  distinct = λ t. (d.cover f t).distinct;
  turned = λ t. (d.cover f t).turned;
  single = λ t. (d.cover f t).single;
  outlined = λ t. once (d.cover f t);
  outside = λ t. (d.cover f t).outside;
  closed = λ t. (d.cover f t).closed;
  whole = λ t. (d.cover f t).whole;
  places = λ k h. edge_places_lem a k (record { surface = f; number = h });
  seams = λ {set'} {p'} {ps'} w j k h e s. (seam_between a (all set' p' ps' w) j k (record { surface = f; number = h }) e s).same;
  mirrors = λ k h. edge_mirrors a k (record { surface = f; number = h });
}
