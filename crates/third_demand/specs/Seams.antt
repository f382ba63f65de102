-- Two outer edges, of one patch or of two, that meet without a gap. Assumes nothing.
use Rattle.std.specs.Prelude.{ℕ, ◌<◌, ◌≡◌, List, length}
use Rattle.level.specs.Segments.{segments_of}
use Rattle.patch.specs.declared.kinds.Patch.{Patch}
use Rattle.patch.specs.declared.settings.Settings.{Settings}
use Rattle.patch.specs.Subdivide.{outer_levels}
use Rattle.mesh_geometry.specs.declared.Point.{Point}
use Rattle.mesh_geometry.specs.Seam.{places, Mirrors}
use Rattle.mesh_geometry.specs.Edge.{along}
use Rattle.patch_mesh.specs.Points.{run}
use Rattle.patch_mesh.specs.Demand.{Surface, outer_level, edges}

-- k is an outer edge of p, and p is a triangle or quad patch
pub record IsEdge (p : Patch) (k : ℕ) : Type 0 where
  pub surface : Surface p
  pub number : k < length (outer_levels p)

-- edge j of p and edge k of p' have the same spacing, level and top level; patches and settings may differ in all else
pub record EdgesAlike (set set' : Settings) (p p' : Patch) (j k : ℕ) : Type 0 where
  pub spacing : set.spacing ≡ set'.spacing
  pub top : set.top ≡ set'.top
  pub level : outer_level p j ≡ outer_level p' k

-- the places of all drawn points on edge k, both ends included, in walk order
abbrev pub places_on : Patch → ℕ → List Point → List ℕ
places_on p k ps = places (edges p k) ps

-- the places q(0) to q(n) that the spacing, the level of edge k and the top level give
abbrev pub edge_places : Settings → Patch → ℕ → List ℕ
edge_places set p k = along (run (segments_of set.spacing set.top (outer_level p k)))

-- what holds for two such edges, where ps and ps' are the drawn points
pub record Seam (set : Settings) (p p' : Patch) (j k : ℕ) (ps ps' : List Point) : Type 0 where
  -- both edges have the same places
  pub same : places_on p j ps ≡ places_on p' k ps'
  -- the places are q(0) to q(n)
  pub places : places_on p j ps ≡ edge_places set p j
  -- the places mirror: read from the other end, each subtracted from 65,536, they are the same list
  pub mirrors : Mirrors (places_on p j ps)
