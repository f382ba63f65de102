-- The numbers and values of the answers to drawing, and which answer applies. Assumes nothing.
use Rattle.std.specs.Prelude.{ℕ, ◌+◌, ◌*◌, ◌/◌, Bool, cond, ltb, Result, Ok, Err}
use Rattle.level.specs.Top.{is_top}
use Rattle.patch.specs.declared.kinds.Patch.{Patch}
use Rattle.patch.specs.declared.settings.Settings.{Settings}
use Rattle.patch.specs.Subdivide.{discards}
use Rattle.measure.specs.declared.size.DrawnCounts.{DrawnCounts}
use Rattle.measure.specs.Sizes.{points_of, indices_of}
use Rattle.answer_codes.specs.AnswerCode.{AnswerCode, refused, drew_both}
use Rattle.share_state.specs.declared.state.Designer.{Designer}
use Rattle.share_state.specs.declared.state.State.{State}
use Rattle.share_answers.specs.declared.answer.ShareRefusal.{ShareRefusal}
use Rattle.share_answers.specs.Refusals.{share_refusal_code}
use Rattle.share_state.specs.SharedList.{share, left}
use Rattle.share_state.specs.Answers.{accepted}

-- the numbers of the answers
abbrev pub draw_code : Result DrawnCounts ShareRefusal → AnswerCode
draw_code (Ok counts) = drew_both counts.points counts.indices
draw_code (Err refusal) = share_refusal_code refusal

-- the answer for m points and k indices in a part that holds n points and has v and i words left; refusals in the order 13, 3, 4
unfoldable pub room_verdict : ℕ → ℕ → ℕ → ℕ → ℕ → AnswerCode
room_verdict n v i m k =
    cond (ltb 65535 (n + m)) (refused 13) (cond (ltb v (3 * m)) (refused 3) (cond (ltb i k) (refused 4) (drew_both m k)))

-- the answer for a patch with a good top level: 1 if it is discarded, else by the room in the part
unfoldable pub part_verdict : Settings → Patch → ℕ → ℕ → ℕ → AnswerCode
part_verdict set p n v i = cond (discards p) (refused 1) (room_verdict n v i (points_of set p) (indices_of set p))

-- the answer to drawing; `ok` says that the state and the lists are accepted. Bad top level (11) first, then bad state (14), then by the part
unfoldable pub share_verdict : Settings → Patch → Bool → ℕ → ℕ → ℕ → AnswerCode
share_verdict set p ok n v i = cond (is_top set.top) (cond ok (part_verdict set p n v i) (refused 14)) (refused 11)

-- how many points a designer's part holds
abbrev pub points_held : Designer → State → ℕ
points_held d s = (share d s.vertices).used / 3

-- the answer to drawing for a designer, with lists of v and i words lent
abbrev pub draw_verdict : Designer → State → Settings → Patch → ℕ → ℕ → AnswerCode
draw_verdict d s set p v i = share_verdict set p (accepted v i s) (points_held d s) (left d s.vertices) (left d s.indices)
