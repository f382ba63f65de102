-- No spot is covered twice: this holds for every patch drawn as triangles, whatever its levels, settings and top level. Assumes nothing.
use Prim.Native.Nat.{ℕ}
use mathlib.Core.Path.{◌≡◌, refl}
use mathlib.Core.Bool.{Bool, false}
use mathlib.Core.List.{List, [], ◌∷◌, map}
use lib.Ieee.{Float}
use Rattle.level.specs.declared.Spacing.{Spacing}
use Rattle.level.specs.Top.{Top}
use Rattle.level.specs.Segments.{segments_of}
use Rattle.level.proofs.Valid.{segments_valid}
use Rattle.patch.specs.declared.kinds.Patch.{Patch}
use Rattle.patch.specs.declared.kinds.Patch.TheVariants.{Triangles, Quads, Isolines}
use Rattle.patch.specs.declared.settings.Settings.{Settings}
use Rattle.patch.specs.Subdivide.{outer_levels, discards, subdivision_of}
use Rattle.mesh_geometry.specs.declared.Point.{Point}
use Rattle.mesh_geometry.specs.Cover.{Face, Cover}
use Rattle.mesh_geometry.specs.Edge.{GoodRun}
use Rattle.mesh_geometry.specs.Held.{Spot, OffSides, HeldOnce}
use Rattle.mesh_geometry.specs.Domain.{triangle, square}
use Rattle.mesh_geometry.proofs.Lists.{All, none, more}
use Rattle.mesh_geometry.proofs.Once.{cover_once}
use Rattle.patch_mesh.specs.Points.{run, points}
use Rattle.patch_mesh.specs.Primitives.{index_words}
use Rattle.patch_mesh.specs.Demand.{Surface, outer_runs, outline, Demand}
use Rattle.patch_mesh.specs.Inside.{Inside, SpotsOnce}
use Rattle.patch_mesh.proofs.Runs.{good_run}
use Rattle.patch_mesh.proofs.Demand.{demand}

module _ (s : Spacing) (t : ℕ) (top : Top t) where
  good_runs : (p : Patch) → All GoodRun (outer_runs s t p)
  good_runs p = go (outer_levels p)
    where
      go : (xs : List Float) → All GoodRun (map (λ x. run (segments_of s t x)) xs)
      go [] = none
      go (x ∷ xs) = more (good_run (segments_of s t x) (segments_valid s t top x)) (go xs)

  -- any mesh that covers a patch
  patch_once : (p : Patch) {turn : Bool} {area : ℕ} {ps : List Point} {faces : List Face} → Cover turn area (outline s t p) ps faces
      → (z : Spot) → Inside p z → OffSides faces z → HeldOnce turn faces z
  patch_once (Triangles a b c i) d z inside clear =
      cover_once triangle (outer_runs s t (Triangles a b c i)) refl (good_runs (Triangles a b c i)) d z inside clear
  patch_once (Quads a b c e i j) d z inside clear =
      cover_once square (outer_runs s t (Quads a b c e i j)) refl (good_runs (Quads a b c e i j)) d z inside clear
  patch_once (Isolines a b) d z inside clear = absurd inside

inside_surface : (p : Patch) (s : Spot) → Inside p s → Surface p
inside_surface (Triangles a b c i) s h = tt
inside_surface (Quads a b c d i j) s h = tt
inside_surface (Isolines a b) s h = h

-- for any points and index words that satisfy demand 3
pub demand_once : (set : Settings) → Top set.top → (p : Patch) {ps : List Point} {ws : List ℕ} → Demand set p ps ws → SpotsOnce set p ps ws
demand_once set top p d filled s inside clear =
    patch_once set.spacing set.top top p (d.cover (inside_surface p s inside) filled) s inside clear

-- for every triangle or quad patch that is not discarded, and all settings with a good top level
pub drawn_once : (set : Settings) → Top set.top → (p : Patch) → discards p ≡ false
    → SpotsOnce set p (points (subdivision_of set p)) (index_words set (subdivision_of set p))
drawn_once set top p kept = demand_once set top p (demand set top p kept)
