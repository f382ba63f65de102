use mathlib.Core.Path.{refl}
use Rattle.call_answers.proofs.Replies.{said_one}
use Rattle.job_words.proofs.Places.{known_some, known_none}
use Rattle.job_exports.proofs.Calls.{kept, done, header_other, header_known}
use Rattle.job_exports.proofs.write.yoktvarim_write_header.Goals as goal

pub returns-in_default : goal.returns-in_default
returns-in_default c =
    kept (header_other _ _ (known_none _ c.in_default.ensures)) 5 refl (said_one c.refusal.ensures c.say_one.ensures)

pub returns : goal.returns
returns c =
    let known = known_some _ c.in-Some.ensures in
    let wrote = rw known.1 at c.write_header.ensures in
    done (header_known _ _ known.0) wrote.wrote (said_one c.of_written_header.ensures c.say_one-2.ensures)
