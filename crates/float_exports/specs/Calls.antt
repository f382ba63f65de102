-- What a call of drawing with floats answers and leaves, for every input: bs are the setting bytes, xs the levels, `before` the
-- three lists at entry and `after` at exit, and c' the counts at exit. Assumes nothing.
use Rattle.std.specs.Prelude.{ℕ, ◌≡◌, List, Float, length}
use Rattle.answer_codes.specs.AnswerCode.{AnswerCode}
use Rattle.tessellate.specs.Draws.{point_words, connection_words}
use Rattle.answer_codes.specs.Drew.{list_after}
use Rattle.call_answers.specs.Replies.{unknown_setting, bad_top, two_words, Says}
use Rattle.call_inputs.specs.Inputs.{patch_in, settings_in}
use Rattle.call_inputs.specs.Asked.{known}
use Rattle.draw_floats.specs.Answers.{floats_verdict}
use Rattle.draw_floats.specs.Draws.{float_words, MeshLists}

-- the answer to drawing with floats into lists of v, i and f words
abbrev pub floats_say : List ℕ → List Float → ℕ → ℕ → ℕ → AnswerCode
floats_say bs xs v i f = known bs bad_top unknown_setting (floats_verdict (settings_in bs) (patch_in bs xs) v i f)

pub record FloatsCalled (bs : List ℕ) (xs : List Float) (before after : MeshLists) (c' : List ℕ) (r : ℕ) : Type 0 where
  -- the answer: 11, 8, or the operation's
  pub says : Says two_words (floats_say bs xs (length before.vertices) (length before.indices) (length before.floats)) c' r
  -- if drawn, each list begins with the words of the patch and is unchanged after them; otherwise all three are unchanged
  pub vertices : after.vertices ≡ list_after r before.vertices (point_words (settings_in bs) (patch_in bs xs))
  pub indices : after.indices ≡ list_after r before.indices (connection_words (settings_in bs) (patch_in bs xs))
  pub floats : after.floats ≡ list_after r before.floats (float_words (settings_in bs) (patch_in bs xs))
