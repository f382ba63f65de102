use mathlib.Core.Path.{sym, ◌∙◌}
use Rattle.job_words.proofs.Places.{known_some, known_none, number_small, found_end, found_other, found_here}
use Rattle.job_words.proofs.found.found_at.Goals as goal

pub returns-then-end-at : goal.returns-then-end-at
returns-then-end-at c = c.nothing_read.ensures ∙ sym (found_end _ _ _ c.if-end-at.true)

pub found_of-requires : goal.found_of-requires
found_of-requires c = number_small _ _ _ _ (sym c.read_record.ensures.is)

pub returns-in-Some : goal.returns-in-Some
returns-in-Some c =
    let known = known_some _ c.in-Some.ensures in
    let is = rw known.1 at c.read_record.ensures.is in
    c.found_of.ensures ∙ rw is (sym (found_here _ _ _ c.if-end-at.false known.0))

pub returns-in-None : goal.returns-in-None
returns-in-None c = c.nothing_read-in-None.ensures ∙ sym (found_other _ _ _ c.if-end-at.false (known_none _ c.in-None.ensures))
