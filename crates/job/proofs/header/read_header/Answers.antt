use Prim.Native.Nat.{◌≤◌}
use mathlib.Core.Path.{◌≡◌, sym, ◌∙◌}
use mathlib.Core.Bool.{true}
use lib.ListN.{length}
use Rattle.std.proofs.lemmas.Result.{err_from_is_err_and}
use Rattle.job.specs.Header.{job_mark, starts_with}
use Rattle.job.proofs.Marks.{has_mark}
use Rattle.job.proofs.Headers.{header_read, header_lacks, header_version, header_right}
use Rattle.job.proofs.header.read_header.Goals as goal
use Rattle.job.proofs.header.read_header.Goals.{Else-lacks_mark}

-- when the version is read, there are 5 bytes, and the mark matches
found : (c : Else-lacks_mark) → (5 ≤ length c.args.bytes.now) × (starts_with job_mark c.args.bytes.now ≡ true)
found c = has_mark job_mark _ (sym c.lacks_mark.ensures ∙ c.if-lacks_mark.false)

pub returns-then-lacks_mark : goal.returns-then-lacks_mark
returns-then-lacks_mark c = header_read _ (header_lacks _ (sym c.lacks_mark.ensures ∙ c.if-lacks_mark.true))

pub returns-in_err-version : goal.returns-in_err-version
returns-in_err-version c =
    let f = found (goal.at.returns-in_err-version c).Else-lacks_mark in
    let n = c.from-number.ensures ∙ c.read_version.ensures in
    let unknown = c.in_err-version.ensures in
    let p = err_from_is_err_and c.from_residual.result c.from_residual.ensures.1 in
    header_read _ (header_version _ f.0 f.1 (λ e. unknown.0 (n ∙ e)) (λ e. unknown.1 (n ∙ e)) ∙ rw (p.1, p.2))

pub returns : goal.returns
returns c =
    let f = found (goal.at.returns c).Else-lacks_mark in
    header_read _ (header_right _ f.0 f.1 c.in_ok-version.version (sym (c.from-number.ensures ∙ c.read_version.ensures) ∙ c.in_ok-version.ensures))
