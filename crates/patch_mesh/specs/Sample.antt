-- Document 01's sample output: a triangle patch with its four points and nine indices. Assumes nothing.
use Rattle.std.specs.Prelude.{ℕ, List, [], ◌∷◌}
use Rattle.patch.specs.declared.kinds.Patch.{Patch}
use Rattle.patch.specs.declared.kinds.Patch.TheVariants.{Triangles}
use Rattle.patch.specs.declared.settings.Settings.{Settings}
use Rattle.patch.specs.Subdivide.{subdivision_of}
use Rattle.mesh_geometry.specs.declared.Point.{Point}
use Rattle.patch_mesh.specs.Levels.{level1, level2}
use Rattle.patch_mesh.specs.Points.{points}
use Rattle.patch_mesh.specs.Primitives.{index_words}

-- the points and the index words of a patch
pub record PatchOutput : Type 0 where
  pub vertices : List Point
  pub indices : List ℕ

-- what drawing a patch with these settings gives
abbrev pub output : Settings → Patch → PatchOutput
output set p =
    record { vertices = points (subdivision_of set p); indices = index_words set (subdivision_of set p) }

-- the outer levels 1, 1 and 1, and the inner level 2
abbrev pub sample_patch : Patch
sample_patch = Triangles level1 level1 level1 level2

-- the sample's points V, W, U and the centre, and its three triangles
abbrev pub sample_output : PatchOutput
sample_output = record {
  vertices =
      record { u = 0; v = 196608; w = 0 }
      ∷ record { u = 0; v = 0; w = 196608 }
      ∷ record { u = 196608; v = 0; w = 0 }
      ∷ record { u = 65536; v = 65536; w = 65536 }
      ∷ [];
  indices = 0 ∷ 1 ∷ 3 ∷ 1 ∷ 2 ∷ 3 ∷ 2 ∷ 0 ∷ 3 ∷ [];
}
