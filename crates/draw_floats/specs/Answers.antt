-- The numbers and values of the answers of drawing with floats, and which answer applies. Assumes nothing.
use Rattle.std.specs.Prelude.{ℕ, ◌*◌, cond, ltb, Result, Ok, Err}
use Rattle.patch.specs.declared.kinds.Patch.{Patch}
use Rattle.patch.specs.declared.settings.Settings.{Settings}
use Rattle.measure.specs.IfDrawn.{if_drawn}
use Rattle.measure.specs.Sizes.{points_of, indices_of}
use Rattle.answer_codes.specs.AnswerCode.{AnswerCode, refused, drew_both}
use Rattle.measure.specs.declared.cut.NotDrawn.{NotDrawn}
use Rattle.measure.specs.declared.cut.NotDrawn.TheVariants as reason
use Rattle.measure.specs.declared.size.DrawnCounts.{DrawnCounts}
use Rattle.draw_floats.specs.declared.refusal.FloatsRefusal.{FloatsRefusal}
use Rattle.draw_floats.specs.declared.refusal.FloatsRefusal.TheVariants.{BadTop, Discarded, NoRoomForVertices, NoRoomForIndices, NoRoomForFloats}

-- a patch that is not cut is not drawn, for the same reason
abbrev pub floats_refusal_of : NotDrawn → FloatsRefusal
floats_refusal_of reason.BadTop = BadTop
floats_refusal_of reason.Discarded = Discarded

-- the numbers are those of the two drawing operations, and 9 if there is no room for the floats
abbrev pub floats_code : Result DrawnCounts FloatsRefusal → AnswerCode
floats_code (Ok counts) = drew_both counts.points counts.indices
floats_code (Err Discarded) = refused 1
floats_code (Err NoRoomForVertices) = refused 3
floats_code (Err NoRoomForIndices) = refused 4
floats_code (Err NoRoomForFloats) = refused 9
floats_code (Err BadTop) = refused 11

-- the answer for this many points and indices, with lists of v, i and f words: each point takes three words and three floats;
-- of the refusals that apply the lowest number is given
unfoldable pub floats_room_verdict : ℕ → ℕ → ℕ → ℕ → ℕ → AnswerCode
floats_room_verdict points indices v i f =
    cond (ltb v (3 * points)) (refused 3) (cond (ltb i indices) (refused 4) (cond (ltb f (3 * points)) (refused 9) (drew_both points indices)))

-- the answer of drawing with floats: a bad top level first, then the lowest number that applies
unfoldable pub floats_verdict : Settings → Patch → ℕ → ℕ → ℕ → AnswerCode
unfolding floats_room_verdict
floats_verdict set p v i f = if_drawn set p (refused 11) (refused 1) (floats_room_verdict (points_of set p) (indices_of set p) v i f)
