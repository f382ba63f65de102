-- An answer with its two places. Assumes nothing.
use Rattle.std.specs.Prelude.{◌≡◌, get_or}
use Rattle.answer_codes.specs.AnswerCode.{AnswerCode}
use Rattle.check_words.specs.declared.found.PlacedReply.{PlacedReply}

-- an answer's number and its two places; 0 for a place that it lacks
pub record Finds (t : AnswerCode) (r : PlacedReply) : Type 0 where
  pub number : r.number ≡ t.number
  pub first : r.first ≡ get_or t.values 0 0
  pub second : r.second ≡ get_or t.values 1 0
