-- How many points and indices a patch has, and the answer of measuring: its number and values by the customer's table, and which applies.
-- Assumes nothing.
use Rattle.std.specs.Prelude.{ℕ, ◌∷◌, length, Result, Ok, Err}
use Rattle.patch.specs.declared.kinds.Patch.{Patch}
use Rattle.patch.specs.declared.settings.Settings.{Settings}
use Rattle.patch.specs.Subdivide.{subdivision_of}
use Rattle.level_clamps.specs.Clamps.{clamps_of}
use Rattle.level_clamps.specs.Numbers.{clamp_numbers}
use Rattle.patch_mesh.specs.Points.{points}
use Rattle.patch_mesh.specs.Primitives.{index_words}
use Rattle.answer_codes.specs.AnswerCode.{AnswerCode, refused}
use Rattle.measure.specs.declared.cut.NotDrawn.{NotDrawn}
use Rattle.measure.specs.declared.cut.NotDrawn.TheVariants.{BadTop, Discarded}
use Rattle.measure.specs.declared.size.Size.{Size}
use Rattle.measure.specs.IfDrawn.{if_drawn}

-- how many points and indices a patch has with these settings
abbrev pub points_of : Settings → Patch → ℕ
points_of set p = length (points (subdivision_of set p))

abbrev pub indices_of : Settings → Patch → ℕ
indices_of set p = length (index_words set (subdivision_of set p))

-- measuring answers both counts and where each level lies, "discarded" or "bad top"
abbrev pub size_code : Result Size NotDrawn → AnswerCode
size_code (Ok s) = record { number = 0; values = s.points ∷ s.indices ∷ clamp_numbers s.clamps }
size_code (Err Discarded) = refused 1
size_code (Err BadTop) = refused 11

-- the answer to measuring: a bad top first; a discarded patch has neither counts nor clamps
unfoldable pub measure_verdict : Settings → Patch → AnswerCode
measure_verdict set p =
    if_drawn set p (refused 11) (refused 1)
    (record { number = 0; values = points_of set p ∷ indices_of set p ∷ clamp_numbers (clamps_of set.spacing set.top p) })
