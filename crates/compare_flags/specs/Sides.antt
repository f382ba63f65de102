-- Flags by a table of the other mesh's sides: pw and iw are the words of one mesh, ow and jw those of the other. Assumes nothing.
use Rattle.std.specs.Prelude.{ℕ, ◌/◌, ◌≤◌, Bool, List, length}
use Rattle.compare_differences.specs.Meshes.{DistinctAndNumbered}
use Rattle.compare_table_flags.specs.Flags.{Partnered, Narrowed, no_same_face, is_first}

-- two meshes that can be compared, the partners of the first one's points, and room for a flag of each triangle
pub record Flaggable (pw iw ow jw partners : List ℕ) (flags other-flags : List Bool) : Type 0 where
  pub good : DistinctAndNumbered pw iw
  pub others : DistinctAndNumbered ow jw
  pub partnered : Partnered pw ow partners
  pub room : length iw / 3 ≤ length flags
  pub other_room : length jw / 3 ≤ length other-flags

-- the flags of triangles before and after: those stay set that the other mesh does not have, and of the other mesh those that are the first
pub record FacesFlagged (pw iw ow jw : List ℕ) (flags flags' other-flags other-flags' : List Bool) : Type 0 where
  pub missing : Narrowed (no_same_face pw iw ow jw) (length iw / 3) flags flags'
  pub first : Narrowed (is_first ow jw) (length jw / 3) other-flags other-flags'
