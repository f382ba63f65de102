-- What is tested of a mesh, in the order of the tests. Two properties need no test, as they follow: the areas add up, and no
-- side is the reverse of a piece of the outline. Assumes nothing.
use Rattle.std.specs.Prelude.{ℕ, ◌%◌, ◌<◌, ◌≡◌, Bool, ◌⊎◌, List, length, get_or}
use Rattle.patch.specs.declared.kinds.Patch.{Patch}
use Rattle.patch.specs.declared.settings.Settings.{Settings}
use Rattle.patch.specs.Turn.{turn_asked}
use Rattle.mesh_geometry.specs.declared.Point.{Point}
use Rattle.mesh_geometry.specs.Cover.{Side, missing, reversed, sides, side, twice_area, HasSign, piece, Occurs, AllDistinct}
use Rattle.mesh_geometry.specs.Words.{read_points}
use Rattle.patch_mesh.specs.Demand.{outline_of}
use Rattle.mesh_geometry.specs.Faces.{faces_in}
use Rattle.mesh_geometry.specs.Held.{face}
use Rattle.mesh_geometry.specs.Domain.{Domain}
use Rattle.patch_mesh.specs.InPatch.{InPatch, domain_of}

-- the directed sides of the triangles of index words
abbrev pub sides_in : List Point → List ℕ → List Side
sides_in ps ws = sides (faces_in ps ws)

-- the mesh passes every test: `turn` is the orientation asked for, `rim` the points of the outline in walk order
pub record Sound (domain : Domain) (turn : Bool) (rim points : List Point) (words : List ℕ) : Type 0 where
  -- the number of indices is a multiple of three
  pub counts : length words % 3 ≡ 0
  -- every index is the number of a point
  pub numbered : (k : ℕ) → k < length words → get_or words k 0 < length points
  -- every point lies in the patch
  pub inside : (i : ℕ) → i < length points → InPatch domain (get_or points i missing)
  pub distinct : AllDistinct points
  -- every triangle has an area, and the orientation asked for
  pub turned : (k : ℕ) → k < length (faces_in points words) → HasSign turn (twice_area (face (faces_in points words) k))
  -- no directed side occurs twice
  pub single : (i j : ℕ) → i < length (sides_in points words) → j < length (sides_in points words)
      → side (sides_in points words) i ≡ side (sides_in points words) j → i ≡ j
  -- every side is a piece of the outline or has its reverse among the sides
  pub closed : (i : ℕ) → i < length (sides_in points words)
      → ((k : ℕ) × (k < length rim) × (side (sides_in points words) i ≡ piece turn rim k))
      ⊎ Occurs (reversed (side (sides_in points words) i)) (sides_in points words)
  -- every piece of the outline is a side
  pub outlined : (k : ℕ) → k < length rim → Occurs (piece turn rim k) (sides_in points words)

-- a mesh passes every test for this patch with these settings
abbrev pub SoundFor : Settings → Patch → List Point → List ℕ → Type 0
SoundFor set p ps ws = Sound (domain_of p) (turn_asked set) (outline_of set p) ps ws

-- the same for a mesh given as words, three per point
pub record SoundWords (set : Settings) (p : Patch) (vs ws : List ℕ) : Type 0 where
  pub thirds : length vs % 3 ≡ 0
  pub mesh : SoundFor set p (read_points vs) ws
