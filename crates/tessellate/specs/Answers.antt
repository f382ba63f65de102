-- The numbers and values that the customer's table gives for each answer, and which of them applies. Assumes nothing.
use Rattle.std.specs.Prelude.{ℕ, ◌*◌, cond, ltb, Result, Ok, Err}
use Rattle.patch.specs.declared.kinds.Patch.{Patch}
use Rattle.patch.specs.declared.settings.Settings.{Settings}
use Rattle.answer_codes.specs.AnswerCode.{AnswerCode, refused, drew}
use Rattle.measure.specs.IfDrawn.{if_drawn}
use Rattle.measure.specs.Sizes.{points_of, indices_of}
use Rattle.tessellate.specs.declared.refusal.DrawRefusal.{DrawRefusal}
use Rattle.tessellate.specs.Refusals.{refusal_code}

-- the number and values of each answer to drawing one list: with points and with indices they are the same
abbrev pub list_code : Result ℕ DrawRefusal → AnswerCode
list_code (Ok n) = drew n
list_code (Err e) = refusal_code e

abbrev pub points_code : Result ℕ DrawRefusal → AnswerCode
points_code r = list_code r

abbrev pub indices_code : Result ℕ DrawRefusal → AnswerCode
indices_code r = list_code r

-- the answer of an operation that writes `count` points or indices as `need` words into a list of `have` words: a bad top first, then the
-- lowest number that applies; `short` is the number for a list that is too short
unfoldable pub list_verdict : Settings → Patch → ℕ → ℕ → ℕ → ℕ → AnswerCode
list_verdict set p short need have count = if_drawn set p (refused 11) (refused 1) (cond (ltb have need) (refused short) (drew count))

-- the answer to drawing points into a vertex list of v words
abbrev pub points_verdict : Settings → Patch → ℕ → AnswerCode
points_verdict set p v = list_verdict set p 3 (3 * points_of set p) v (points_of set p)

-- the answer to drawing indices into an index list of i words
abbrev pub indices_verdict : Settings → Patch → ℕ → AnswerCode
indices_verdict set p i = list_verdict set p 4 (indices_of set p) i (indices_of set p)
