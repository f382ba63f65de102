-- What a call answers and leaves, for every input: bs are the setting bytes, xs the levels, `before` and `after` the memory at entry and at
-- exit, w and w' the words of the state, and c' the counts at exit. Assumes nothing.
use Rattle.std.specs.Prelude.{ℕ, ◌<◌, ◌≡◌, Bool, cond, List, ltb, Float, Result, Ok, Err, length}
use Rattle.level.specs.Top.{is_top}
use Rattle.patch.specs.declared.kinds.Patch.{Patch}
use Rattle.patch.specs.declared.settings.Settings.{Settings}
use Rattle.job_fields.specs.Settings.{first_unknown_setting}
use Rattle.answer_codes.specs.AnswerCode.{AnswerCode, refused, done}
use Rattle.tessellate.specs.Draws.{point_words}
use Rattle.call_answers.specs.declared.reply.Reply.{Reply}
use Rattle.call_answers.specs.Replies.{unknown_setting, bad_top, two_words, IsReply, Says}
use Rattle.call_inputs.specs.Inputs.{top_in, patch_in, settings_in}
use Rattle.share_state.specs.declared.state.Designer.{Designer}
use Rattle.share_state.specs.declared.state.Quota.{Quota}
use Rattle.share_state.specs.declared.state.State.{State}
use Rattle.share_state.specs.SharedList.{appended}
use Rattle.share_state.specs.Answers.{accepted, start_verdict}
use Rattle.share_answers.specs.Answers.{draw_verdict}
use Rattle.share_state.specs.Operations.{unless_refused, start_state, cleared_state}
use Rattle.share_draw.specs.Operations.{new_indices, drawn_state}
use Rattle.share_words.specs.Words.{state_in, state_words, quota_in, designer_of}
use Rattle.share_words.specs.Memory.{Memory}

-- answer 15: the designer is neither 0 nor 1
abbrev pub unknown_designer : AnswerCode
unknown_designer = refused 15

-- the answer t if designer and settings are known; refusals in the order 11, 14, 15, 8
unfoldable pub asked : List ℕ → ℕ → Bool → AnswerCode → AnswerCode
asked bs d ok t =
    cond (is_top (top_in bs))
    (cond ok (cond (ltb 1 d) unknown_designer (cond (ltb (first_unknown_setting bs 0) 5) (unknown_setting (first_unknown_setting bs 0)) t)) (refused 14))
    bad_top

-- whether a call is admitted: nothing is refused without its patch, or the reply is the refusal
abbrev pub IsAdmitted : List ℕ → ℕ → Bool → Result (Unit {0}) Reply → Type 0
IsAdmitted bs d ok (Ok u) = asked bs d ok done ≡ done
IsAdmitted bs d ok (Err reply) = (0 < reply.number) × IsReply (asked bs d ok done) reply

-- the contract of a drawing call with the answer t, for a designer, a state, settings and a patch
pub record ShareCalled (t : AnswerCode) (e : Designer) (s : State) (set : Settings) (p : Patch) (before after : Memory) (c' : List ℕ) (r : ℕ) : Type 0 where
  pub says : Says two_words t c' r
  -- if drawn, the state and both lists are those of the operation; otherwise all are unchanged
  pub state : after.words ≡ unless_refused r (state_words (drawn_state e s set p)) before.words
  pub vertices : after.vertices ≡ unless_refused r (appended e (point_words set p) s.vertices before.vertices) before.vertices
  pub indices : after.indices ≡ unless_refused r (appended e (new_indices e s set p) s.indices before.indices) before.indices

-- the answer to drawing, for the setting bytes bs and the designer's number d
abbrev pub draw_says : List ℕ → ℕ → Designer → State → Settings → Patch → ℕ → ℕ → AnswerCode
draw_says bs d e s set p v i = asked bs d (accepted v i s) (draw_verdict e s set p v i)

abbrev pub DrawAsked : List ℕ → ℕ → Designer → State → Settings → Patch → Memory → Memory → List ℕ → ℕ → Type 0
DrawAsked bs d e s set p before after c' r =
    ShareCalled (draw_says bs d e s set p (length before.vertices) (length before.indices)) e s set p before after c' r

-- the contract of drawing
abbrev pub DrawCalled : List ℕ → List Float → ℕ → Memory → Memory → List ℕ → ℕ → Type 0
DrawCalled bs xs d before after c' r = DrawAsked bs d (designer_of d) (state_in before.words) (settings_in bs) (patch_in bs xs) before after c' r

-- a start on lists of v and i words, with the quotas a and b
pub record Started (v i : ℕ) (a b : Quota) (w w' : List ℕ) (r : ℕ) : Type 0 where
  pub number : r ≡ (start_verdict v i a b).number
  pub state : w' ≡ unless_refused r (state_words (start_state v i a b)) w

-- the contract of starting, with the quotas as four words q
abbrev pub StartCalled : List ℕ → ℕ → ℕ → List ℕ → List ℕ → ℕ → Type 0
StartCalled q v i w w' r = Started v i (quota_in q 0) (quota_in q 2) w w' r

-- the answer to clearing: 14 first, then 15
unfoldable pub clear_says : ℕ → Bool → AnswerCode
clear_says d ok = cond ok (cond (ltb 1 d) unknown_designer done) (refused 14)

-- clearing for the designer's number d, with lists of v and i words lent
pub record ShareCleared (d v i : ℕ) (e : Designer) (s : State) (w w' : List ℕ) (r : ℕ) : Type 0 where
  pub number : r ≡ (clear_says d (accepted v i s)).number
  pub state : w' ≡ unless_refused r (state_words (cleared_state e s)) w

abbrev pub ClearCalled : ℕ → ℕ → ℕ → List ℕ → List ℕ → ℕ → Type 0
ClearCalled d v i w w' r = ShareCleared d v i (designer_of d) (state_in w) w w' r
