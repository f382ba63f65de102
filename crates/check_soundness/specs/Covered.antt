-- What an accepted mesh of a patch that is not discarded satisfies. Assumes nothing.
use Rattle.std.specs.Prelude.{ℕ, List}
use Rattle.patch.specs.declared.kinds.Patch.{Patch}
use Rattle.patch.specs.declared.settings.Settings.{Settings}
use Rattle.patch.specs.Turn.{turn_asked}
use Rattle.mesh_geometry.specs.Cover.{Cover}
use Rattle.mesh_geometry.specs.Held.{Spot, OffSides, HeldOnce}
use Rattle.mesh_geometry.specs.Words.{read_points}
use Rattle.patch_mesh.specs.Demand.{outline_of, twice_area_of}
use Rattle.mesh_geometry.specs.Faces.{faces_in}
use Rattle.patch_mesh.specs.Inside.{Inside}

-- the mesh with the point words pw and the index words iw has no hole, no overlap and no triangle of the wrong orientation
pub record Covered (set : Settings) (p : Patch) (pw iw : List ℕ) : Type 0 where
  -- demand 3, as for a drawn mesh
  pub cover : Cover (turn_asked set) (twice_area_of p) (outline_of set p) (read_points pw) (faces_in (read_points pw) iw)
  -- exactly one triangle holds each spot that lies strictly inside the patch and on no side
  pub once : (z : Spot) → Inside p z → OffSides (faces_in (read_points pw) iw) z
      → HeldOnce (turn_asked set) (faces_in (read_points pw) iw) z
