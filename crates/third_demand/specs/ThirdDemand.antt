-- The customer's third demand for a drawn triangle or quad patch, one field per sentence, in the same order. Assumes nothing.
use Rattle.std.specs.Prelude.{ℕ, ◌<◌, ◌≡◌, false, ◌⊎◌, List, length, get_or}
use Rattle.patch.specs.declared.kinds.Patch.{Patch}
use Rattle.patch.specs.declared.settings.Settings.{Settings}
use Rattle.patch.specs.Subdivide.{outer_levels}
use Rattle.patch.specs.Turn.{turn_asked}
use Rattle.mesh_geometry.specs.declared.Point.{Point}
use Rattle.mesh_geometry.specs.Cover.{Side, sides, side, reversed, piece, Occurs, AllDistinct, HasSign, twice_area, total_twice_area, signed}
use Rattle.mesh_geometry.specs.Seam.{Mirrors}
use Rattle.patch_mesh.specs.Demand.{outline_of, twice_area_of}
use Rattle.mesh_geometry.specs.Faces.{faces_in}
use Rattle.mesh_geometry.specs.Held.{face}
use Rattle.third_demand.specs.Seams.{IsEdge, EdgesAlike, places_on, edge_places}

-- point mode is off
abbrev pub AsTriangles : Settings → Type 0
AsTriangles set = set.point_mode ≡ false

-- the side occurs exactly once
pub record OccursOnce (s : Side) (ss : List Side) : Type 0 where
  pub number : ℕ
  pub below : number < length ss
  pub here : side ss number ≡ s
  pub alone : (j : ℕ) → j < length ss → side ss j ≡ s → j ≡ number

-- ps are all drawn points and ws the index words; `Drew set' p' ps'` says that a call drew the points ps' for p'
pub record ThirdDemand (Drew : Settings → Patch → List Point → Type 0) (set : Settings) (p : Patch) (ps : List Point) (ws : List ℕ) : Type 0 where
  -- every index is the number of a point
  pub numbered : (k : ℕ) → k < length ws → get_or ws k 0 < length ps
  -- drawn as triangles: no two points are equal
  pub distinct : AsTriangles set → AllDistinct ps
  -- every triangle has an area, and the orientation asked for
  pub turned : AsTriangles set → (k : ℕ) → k < length (faces_in ps ws) → HasSign (turn_asked set) (twice_area (face (faces_in ps ws) k))
  -- no directed side occurs twice
  pub single : AsTriangles set → (i j : ℕ) → i < length (sides (faces_in ps ws)) → j < length (sides (faces_in ps ws))
      → side (sides (faces_in ps ws)) i ≡ side (sides (faces_in ps ws)) j → i ≡ j
  -- each piece of the outline is a side exactly once
  pub outlined : AsTriangles set → (k : ℕ) → k < length (outline_of set p) → OccursOnce (piece (turn_asked set) (outline_of set p) k) (sides (faces_in ps ws))
  -- the reverse of a piece is not a side
  pub outside : AsTriangles set → (k : ℕ) → k < length (outline_of set p) → Occurs (reversed (piece (turn_asked set) (outline_of set p) k)) (sides (faces_in ps ws)) → ⊥
  -- every other side has its reverse among the sides
  pub closed : AsTriangles set → (i : ℕ) → i < length (sides (faces_in ps ws))
      → ((k : ℕ) × (k < length (outline_of set p)) × (side (sides (faces_in ps ws)) i ≡ piece (turn_asked set) (outline_of set p) k))
      ⊎ Occurs (reversed (side (sides (faces_in ps ws)) i)) (sides (faces_in ps ws))
  -- the signed areas add up to the area of the patch, negative if the orientation asked for is
  pub whole : AsTriangles set → total_twice_area (faces_in ps ws) ≡ signed (turn_asked set) (twice_area_of p)
  -- drawn as triangles or as dots: the points on each outer edge have the places q(0) to q(n) of the spacing, that edge's level
  -- and the top level
  pub places : (k : ℕ) → k < length (outer_levels p) → places_on p k ps ≡ edge_places set p k
  -- the places depend on these alone: an outer edge of another drawn patch with the same spacing, level and top level has the same places
  pub seams : {set' : Settings} {p' : Patch} {ps' : List Point} → Drew set' p' ps' → (j k : ℕ) → j < length (outer_levels p) → IsEdge p' k
      → EdgesAlike set set' p p' j k → places_on p j ps ≡ places_on p' k ps'
  -- the places mirror: read from the other end, each subtracted from 65,536, they are the same list
  pub mirrors : (k : ℕ) → k < length (outer_levels p) → Mirrors (places_on p k ps)
