-- What a call asks for, for every input: bs are the setting bytes, xs the levels. Assumes nothing.
use Rattle.std.specs.Prelude.{ℕ, cond, List, ltb, Float, Result, Ok, Err}
use Rattle.level.specs.Top.{is_top}
use Rattle.job_fields.specs.Settings.{first_unknown_setting}
use Rattle.call_answers.specs.Replies.{reply_of, unknown_setting, bad_top}
use Rattle.call_inputs.specs.Inputs.{top_in, patch_in, settings_in}
use Rattle.call_answers.specs.declared.reply.Reply.{Reply}
use Rattle.call_inputs.specs.declared.asked.Request.{Request}

-- the answer t if all settings are known; a bad top level comes first, then an unknown setting
unfoldable pub known : {A : Type 0} → List ℕ → A → (ℕ → A) → A → A
known bs bad unknown t = cond (is_top (top_in bs)) (cond (ltb (first_unknown_setting bs 0) 5) (unknown (first_unknown_setting bs 0)) t) bad

-- the settings and the patch, or the refusal
abbrev pub asked_in : List ℕ → List Float → Result Request Reply
asked_in bs xs =
    known bs (Err (reply_of bad_top)) (λ place. Err (reply_of (unknown_setting place))) (Ok (record { settings = settings_in bs; patch = patch_in bs xs }))
