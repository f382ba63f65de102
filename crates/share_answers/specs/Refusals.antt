-- The refusals of drawing into a designer's part. Assumes nothing.
use Rattle.answer_codes.specs.AnswerCode.{AnswerCode, refused}
use Rattle.measure.specs.declared.cut.NotDrawn.{NotDrawn}
use Rattle.measure.specs.declared.cut.NotDrawn.TheVariants as reason
use Rattle.share_answers.specs.declared.answer.ShareRefusal.{ShareRefusal}
use Rattle.share_answers.specs.declared.answer.ShareRefusal.TheVariants.{Discarded, NoRoomForVertices, NoRoomForIndices, BadTop, TooManyPoints, BadState}

-- a patch that is not measured is not drawn, for the same reason
abbrev pub share_refusal_of : NotDrawn → ShareRefusal
share_refusal_of reason.BadTop = BadTop
share_refusal_of reason.Discarded = Discarded

-- the number of each refusal
abbrev pub share_refusal_code : ShareRefusal → AnswerCode
share_refusal_code Discarded = refused 1
share_refusal_code NoRoomForVertices = refused 3
share_refusal_code NoRoomForIndices = refused 4
share_refusal_code BadTop = refused 11
share_refusal_code TooManyPoints = refused 13
share_refusal_code BadState = refused 14
