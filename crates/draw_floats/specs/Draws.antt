-- The contract of drawing with floats: the answer, and each of the three lists at exit. Assumes nothing.
use Rattle.std.specs.Prelude.{ℕ, ◌≡◌, List, map, Float, length, Result}
use Rattle.patch.specs.declared.kinds.Patch.{Patch}
use Rattle.patch.specs.declared.settings.Settings.{Settings}
use Rattle.patch_mesh.specs.Coordinates.{one}
use Rattle.tessellate.specs.Draws.{point_words, connection_words}
use Rattle.answer_codes.specs.Drew.{list_after}
use Rattle.coordinate.specs.Coordinate.{coordinate}
use Rattle.measure.specs.declared.size.DrawnCounts.{DrawnCounts}
use Rattle.draw_floats.specs.declared.refusal.FloatsRefusal.{FloatsRefusal}
use Rattle.draw_floats.specs.Answers.{floats_code, floats_verdict}

-- the floats of a patch: each coordinate of its points, scaled to 1
abbrev pub float_words : Settings → Patch → List Float
float_words set p = map (coordinate (one p)) (point_words set p)

-- the three lists that are drawn into
pub record MeshLists : Type 0 where
  pub vertices : List ℕ
  pub indices : List ℕ
  pub floats : List Float

-- `before` are the lists at entry, `after` at exit. If drawn, each list begins with the words of the patch and is unchanged after
-- them; otherwise all three are unchanged
pub record DrewWithFloats (set : Settings) (p : Patch) (before after : MeshLists) (r : Result DrawnCounts FloatsRefusal) : Type 0 where
  -- the answer, with both counts if drawn
  pub answer : floats_code r ≡ floats_verdict set p (length before.vertices) (length before.indices) (length before.floats)
  -- the same words as the two drawing operations write
  pub vertices : after.vertices ≡ list_after (floats_code r).number before.vertices (point_words set p)
  pub indices : after.indices ≡ list_after (floats_code r).number before.indices (connection_words set p)
  -- three floats per point
  pub floats : after.floats ≡ list_after (floats_code r).number before.floats (float_words set p)
