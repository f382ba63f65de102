-- How many words a patch has. Assumes nothing.
use Prim.Native.Nat.{ℕ, ◌+◌, ◌*◌}
use mathlib.Core.Path.{◌≡◌}
use lib.ListN.{length, length-map}
use Rattle.patch.specs.declared.kinds.Patch.{Patch}
use Rattle.patch.specs.declared.settings.Settings.{Settings}
use Rattle.patch.specs.Subdivide.{subdivision_of}
use Rattle.mesh_geometry.proofs.Words.{words_length}
use Rattle.patch_mesh.specs.Points.{points}
use Rattle.measure.specs.Sizes.{points_of, indices_of}
use Rattle.tessellate.specs.Draws.{point_words, connection_words}
use Rattle.share_draw.specs.Operations.{shifted_indices}

-- the words of its points
pub point_words_lem : (set : Settings) (p : Patch) → length (point_words set p) ≡ 3 * points_of set p
point_words_lem set p = words_length (points (subdivision_of set p))

-- the words of its indices, whatever is added to them
pub index_words_lem : (n : ℕ) (set : Settings) (p : Patch) → length (shifted_indices n set p) ≡ indices_of set p
index_words_lem n set p = length-map (connection_words set p) (λ x. n + x)
