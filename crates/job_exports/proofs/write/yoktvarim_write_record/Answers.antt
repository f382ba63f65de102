use native.Mathlib.Omega.{arith}
use mathlib.Core.Path.{refl, sym, ap, ◌∙◌}
use Rattle.call_answers.specs.Replies.{unknown_setting}
use Rattle.call_answers.proofs.Replies.{said_one, reply_as}
use Rattle.job_words.proofs.Places.{known_some, known_none}
use Rattle.job_exports.proofs.Calls.{kept, done, record_other, record_top, record_unknown, record_known}
use Rattle.job_exports.proofs.write.yoktvarim_write_record.Goals as goal

pub returns-in_default : goal.returns-in_default
returns-in_default c =
    kept (record_other _ _ _ (known_none _ c.in_default.ensures)) 5 refl (said_one c.refusal.ensures c.say_one.ensures)

pub returns-then-not-takes_top : goal.returns-then-not-takes_top
returns-then-not-takes_top c =
    let known = known_some _ c.in-Some.ensures in
    let taken = rw (known.1, c.top_in.ensures) at c.takes_top.ensures in
    kept (record_top _ _ _ known.0 (sym taken ∙ c.if-not-takes_top.true)) 10 refl
    (said_one c.bad_top.ensures c.say_one-then-not-takes_top.ensures)

pub returns-then-place-lt5 : goal.returns-then-place-lt5
returns-then-place-lt5 c =
    let known = known_some _ c.in-Some.ensures in
    let taken = rw (known.1, c.top_in.ensures) at c.takes_top.ensures in
    let is = c.first_unknown-place.ensures in
    kept (record_unknown _ _ _ known.0 (sym taken ∙ c.if-not-takes_top.false) (omega (arith, is, c.if-place-lt5.true))) 7 refl
    (said_one (reply_as (ap unknown_setting (sym is)) c.unknown_setting.ensures) c.say_one-then-place-lt5.ensures)

pub returns : goal.returns
returns c =
    let known = known_some _ c.in-Some.ensures in
    let taken = rw (known.1, c.top_in.ensures) at c.takes_top.ensures in
    let is = c.first_unknown-place.ensures in
    let wrote = rw (known.1, c.record_in-record.ensures) at c.write_record.ensures in
    done (record_known _ _ _ known.0 (sym taken ∙ c.if-not-takes_top.false) c.args.patterns.now (omega (arith, is))) wrote.wrote
    (said_one c.of_written_record.ensures c.say_one-2.ensures)
