-- The contract of a run: the text that was written answers all bytes that were read. Assumes nothing.
use Rattle.std.specs.Prelude.{ℕ, ◌+◌, cond, ◌||◌, List, [], ◌++◌, length, take}
use Rattle.standard_streams.specs.declared.output.Output.{Output}
use Rattle.standard_streams.specs.Moved.{Taken}
use Rattle.job_text.specs.Jobs.{job_text}
use Rattle.job_text.specs.Pieces.{joined_pieces}
use Rattle.tsj_run.specs.declared.run.JobOutcome.{JobOutcome}
use Rattle.tsj_pieces.specs.Headers.{AnsweredHeader}
use Rattle.tsj_run.specs.Rests.{pieces, AnsweredRest}

-- all that was written
abbrev pub written : JobOutcome → Output
written r = record { count = r.start.output.count + r.records.output.count; failed = r.start.output.failed || r.records.output.failed }

-- the bytes that are answered: the header, the full chunks, and the last chunk unless reading it failed
abbrev pub answered_bytes : List ℕ → List ℕ → List ℕ → JobOutcome → List ℕ
answered_bytes hs earlier bs r = take r.start.input.count hs ++ joined_pieces (pieces r.records.last.failed earlier (take r.records.last.count bs))

-- hs and bs are the lists for the header and for the records, after the call
pub record JobRan (hs bs : List ℕ) (r : JobOutcome) : Type 0 where
  pub header : AnsweredHeader hs r.start
  pub records : AnsweredRest r.start.rest bs r.records
  -- all text of the job was passed to writes, up to one that failed; the text is empty if the header could not be read
  pub whole : Taken (length (cond r.start.input.failed [] (job_text (answered_bytes hs records.earlier bs r)))) (written r)
