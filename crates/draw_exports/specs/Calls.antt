-- What a call answers and leaves, for every input: bs are the setting bytes, xs the levels, v and v' the vertex list at entry and at exit,
-- i and i' the index list, and c' the counts at exit. Assumes nothing.
use Rattle.std.specs.Prelude.{ℕ, ◌≡◌, List, Float, length}
use Rattle.measure.specs.Sizes.{measure_verdict}
use Rattle.tessellate.specs.Answers.{points_verdict, indices_verdict}
use Rattle.answer_codes.specs.AnswerCode.{AnswerCode}
use Rattle.tessellate.specs.Draws.{point_words, connection_words}
use Rattle.answer_codes.specs.Drew.{list_after}
use Rattle.call_answers.specs.Clamps.{clamp_bytes}
use Rattle.call_answers.specs.Replies.{unknown_setting, bad_top, two_words, one_word, Says}
use Rattle.call_inputs.specs.Inputs.{patch_in, settings_in}
use Rattle.call_inputs.specs.Asked.{known}

-- the answer to measuring
abbrev pub measure_says : List ℕ → List Float → AnswerCode
measure_says bs xs = known bs bad_top unknown_setting (measure_verdict (settings_in bs) (patch_in bs xs))

-- the answer to drawing the points into a list of n words
abbrev pub points_say : List ℕ → List Float → ℕ → AnswerCode
points_say bs xs n = known bs bad_top unknown_setting (points_verdict (settings_in bs) (patch_in bs xs) n)

-- the answer to drawing the indices into a list of n words
abbrev pub indices_say : List ℕ → List Float → ℕ → AnswerCode
indices_say bs xs n = known bs bad_top unknown_setting (indices_verdict (settings_in bs) (patch_in bs xs) n)

-- the contract of measuring; k' are the bytes of the clamps at exit
pub record MeasureCalled (bs : List ℕ) (xs : List Float) (c' k' : List ℕ) (r : ℕ) : Type 0 where
  pub says : Says two_words (measure_says bs xs) c' r
  pub clamps : k' ≡ clamp_bytes (measure_says bs xs).values

-- the contract of a call whose answer is t and whose own list l became l'
pub record ListCalled (t : AnswerCode) (words l l' c' : List ℕ) (r : ℕ) : Type 0 where
  -- the answer: 11, 8, or the operation's
  pub says : Says one_word t c' r
  -- if drawn, the list begins with the counted words and is unchanged after them; otherwise it is unchanged
  pub list : l' ≡ list_after r l words

-- the contracts of drawing the points and of drawing the indices
abbrev pub PointsCalled : List ℕ → List Float → List ℕ → List ℕ → List ℕ → ℕ → Type 0
PointsCalled bs xs v v' c' r = ListCalled (points_say bs xs (length v)) (point_words (settings_in bs) (patch_in bs xs)) v v' c' r

abbrev pub IndicesCalled : List ℕ → List Float → List ℕ → List ℕ → List ℕ → ℕ → Type 0
IndicesCalled bs xs i i' c' r = ListCalled (indices_say bs xs (length i)) (connection_words (settings_in bs) (patch_in bs xs)) i i' c' r
