use mathlib.Core.Path.{sym, ◌∙◌}
use Rattle.job.proofs.Marks.{has_mark}
use Rattle.replay.specs.Replays.{recording_mark}
use Rattle.replay.proofs.Headers.{start_lacks, start_version, start_right}
use Rattle.replay.proofs.recording.read_start.Goals as goal

pub returns-then-lacks_mark : goal.returns-then-lacks_mark
returns-then-lacks_mark c = sym (start_lacks _ (sym c.lacks_mark.ensures ∙ c.if-lacks_mark.true))

pub returns-then-read_version-ne-VERSION : goal.returns-then-read_version-ne-VERSION
returns-then-read_version-ne-VERSION c =
    let f = has_mark recording_mark _ (sym c.lacks_mark.ensures ∙ c.if-lacks_mark.false) in
    sym (start_version _ f.0 f.1 (λ e. c.if-read_version-ne-VERSION.true (c.read_version.ensures ∙ e)))

pub returns : goal.returns
returns c = let f = has_mark recording_mark _ (sym c.lacks_mark.ensures ∙ c.if-lacks_mark.false) in
    sym (start_right _ f.0 f.1 (sym c.read_version.ensures ∙ c.if-read_version-ne-VERSION.false))
