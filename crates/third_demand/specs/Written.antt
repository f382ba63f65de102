-- The points that a drawing operation wrote, read from its list at exit. Assumes nothing.
use Rattle.std.specs.Prelude.{ℕ, ◌*◌, ◌≡◌, List, Result, take}
use Rattle.patch.specs.declared.kinds.Patch.{Patch}
use Rattle.patch.specs.declared.settings.Settings.{Settings}
use Rattle.mesh_geometry.specs.declared.Point.{Point}
use Rattle.mesh_geometry.specs.Words.{read_points}
use Rattle.tessellate.specs.declared.refusal.DrawRefusal.{DrawRefusal}
use Rattle.tessellate.specs.Answers.{points_code}
use Rattle.answer_codes.specs.AnswerCode.{drew}
use Rattle.tessellate.specs.Draws.{DrewPoints}

-- the n drawn points at the front of a list, three words each
abbrev pub drawn_points : ℕ → List ℕ → List Point
drawn_points n v = read_points (take (3 * n) v)

-- drawing the points of a patch answered "drawn", and these are the points
pub data WrotePoints (set : Settings) (p : Patch) : List Point → Type 0 where
  wrote : (r : Result ℕ DrawRefusal) (v v' : List ℕ) (P : ℕ) → DrewPoints set p v v' r → points_code r ≡ drew P → WrotePoints set p (drawn_points P v')
