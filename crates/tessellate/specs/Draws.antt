-- The contracts of the two drawing operations: the answer, and the operation's own list at exit. Assumes nothing.
use Rattle.std.specs.Prelude.{ℕ, List, length, Result}
use Rattle.patch.specs.declared.kinds.Patch.{Patch}
use Rattle.patch.specs.declared.settings.Settings.{Settings}
use Rattle.patch.specs.Subdivide.{subdivision_of}
use Rattle.mesh_geometry.specs.Words.{vertex_words}
use Rattle.patch_mesh.specs.Points.{points}
use Rattle.patch_mesh.specs.Primitives.{index_words}
use Rattle.answer_codes.specs.Drew.{Drew}
use Rattle.tessellate.specs.declared.refusal.DrawRefusal.{DrawRefusal}
use Rattle.tessellate.specs.Answers.{points_code, indices_code, points_verdict, indices_verdict}

-- the words of a patch's points and of its indices
abbrev pub point_words : Settings → Patch → List ℕ
point_words set p = vertex_words (points (subdivision_of set p))

abbrev pub connection_words : Settings → Patch → List ℕ
connection_words set p = index_words set (subdivision_of set p)

-- the contract of drawing the points: v and v' are the vertex list at entry and at exit
abbrev pub DrewPoints : Settings → Patch → List ℕ → List ℕ → Result ℕ DrawRefusal → Type 0
DrewPoints set p v v' r = Drew (points_code r) (points_verdict set p (length v)) (point_words set p) v v'

-- the contract of drawing the indices: i and i' are the index list at entry and at exit
abbrev pub DrewIndices : Settings → Patch → List ℕ → List ℕ → Result ℕ DrawRefusal → Type 0
DrewIndices set p i i' r = Drew (indices_code r) (indices_verdict set p (length i)) (connection_words set p) i i'
