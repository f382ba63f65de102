-- When a call gives which answer, for an operation with answers of type A. Assumes nothing.
use Rattle.std.specs.Prelude.{ℕ, List}
use Rattle.level.specs.Top.{Top}
use Rattle.job_fields.specs.Settings.{choices, FirstOver, AllBelow}
use Rattle.answer_codes.specs.AnswerCode.{AnswerCode}
use Rattle.call_answers.specs.Replies.{unknown_setting}
use Rattle.answer_codes.specs.Reports.{AnsweredExactly}
use Rattle.call_inputs.specs.Inputs.{top_in}

-- the answer of a call: an unknown setting, by its place, or the operation's answer
pub data CallAnswer (A : Type 0) : Type 0 where
  unknown : ℕ → CallAnswer A
  found : A → CallAnswer A

abbrev pub call_code : {A : Type 0} → (A → AnswerCode) → CallAnswer A → AnswerCode
call_code told (unknown place) = unknown_setting place
call_code told (found v) = told v

-- when each answer is right for the setting bytes bs, where `Means` says when the operation's are: a bad top level comes first,
-- then an unknown setting; with a good top level the operation answers only if all settings are in range
abbrev pub CallMeans : {A : Type 0} → List ℕ → (A → Type 0) → CallAnswer A → Type 0
CallMeans bs Means (unknown place) = Top (top_in bs) × FirstOver choices bs 0 place
CallMeans bs Means (found v) = (Top (top_in bs) → AllBelow choices bs 0) × Means v

-- the call answered the number r and left the words w; `words` gives the words for an answer's values
abbrev pub CalledExactly : {A : Type 0} → (List ℕ → List ℕ) → (A → AnswerCode) → List ℕ → (A → Type 0) → List ℕ → ℕ → Type 0
CalledExactly words told bs Means w r = AnsweredExactly (λ a. (call_code told a).number) (λ a. words (call_code told a).values) (CallMeans bs Means) w r
