-- The refusals of drawing. Assumes nothing.
use Rattle.answer_codes.specs.AnswerCode.{AnswerCode, refused}
use Rattle.measure.specs.declared.cut.NotDrawn.{NotDrawn}
use Rattle.measure.specs.declared.cut.NotDrawn.TheVariants as reason
use Rattle.tessellate.specs.declared.refusal.DrawRefusal.{DrawRefusal}
use Rattle.tessellate.specs.declared.refusal.DrawRefusal.TheVariants.{BadTop, Discarded, NoRoomForVertices, NoRoomForIndices}

-- a patch that is not cut is not drawn, for the same reason
abbrev pub refusal_of : NotDrawn → DrawRefusal
refusal_of reason.BadTop = BadTop
refusal_of reason.Discarded = Discarded

-- the number of each refusal; 2 once meant more points than an index can number, and is not used again
abbrev pub refusal_code : DrawRefusal → AnswerCode
refusal_code Discarded = refused 1
refusal_code NoRoomForVertices = refused 3
refusal_code NoRoomForIndices = refused 4
refusal_code BadTop = refused 11
