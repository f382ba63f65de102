-- What holds after some records of a job are answered. Assumes nothing.
use Rattle.std.specs.Prelude.{ℕ, ◌≤◌, ◌<◌, ◌≡◌, List, ◌++◌, length, take}
use Rattle.job_fields.specs.declared.version.Version.{Version}
use Rattle.job_text.specs.declared.records.Progress.{Progress}
use Rattle.job_text.specs.Jobs.{answers_from}

-- `out` is the output list after the call
pub record Reported (v : Version) (bs : List ℕ) (from : ℕ) (out : List ℕ) (r : Progress) : Type 0 where
  -- the text that was written, followed by that for the records left, is the text for all records
  pub text : answers_from v bs from ≡ take r.written out ++ answers_from v bs r.next
  pub fits : r.written ≤ length out
  -- if a record is left, at least one is answered
  pub on : from < length bs → from < r.next
