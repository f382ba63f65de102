-- The answer of a call that checks a mesh. Assumes nothing.
use Rattle.std.specs.Prelude.{ℕ, List, Float}
use Rattle.answer_codes.specs.AnswerCode.{AnswerCode}
use Rattle.check_soundness.specs.Answers.{check_verdict}
use Rattle.call_answers.specs.Replies.{unknown_setting, bad_top}
use Rattle.call_inputs.specs.Inputs.{patch_in, settings_in}
use Rattle.call_inputs.specs.Asked.{known}

-- the answer for the setting bytes bs, the levels xs, the point words pw and the index words iw: a bad top level first, then an unknown setting
abbrev pub check_says : List ℕ → List Float → List ℕ → List ℕ → AnswerCode
check_says bs xs pw iw = known bs bad_top unknown_setting (check_verdict (settings_in bs) (patch_in bs xs) pw iw)
