-- The contract of reading and answering a header. Assumes nothing.
use Rattle.std.specs.Prelude.{ℕ, ◌≡◌, cond, List, [], length, take, Result, None}
use Rattle.standard_streams.specs.Moved.{Filled, Taken}
use Rattle.standard_streams.specs.declared.input.Input.{Input}
use Rattle.job.specs.declared.header.Header.{Header}
use Rattle.job.specs.declared.header.HeaderError.{HeaderError}
use Rattle.job.specs.Header.{header_of}
use Rattle.job_text.specs.Jobs.{start_text, rest_of}
use Rattle.tsj_pieces.specs.declared.header.Start.{Start}

-- the header in the bytes that were read to the front of hs
abbrev pub header_in : List ℕ → Input → Result Header HeaderError
header_in hs input = header_of (take input.count hs)

-- the text that answers it; empty if the read failed
abbrev pub header_text : List ℕ → Input → List ℕ
header_text hs input = cond input.failed [] (start_text (header_in hs input))

-- hs is the list for the header, after the call
pub record AnsweredHeader (hs : List ℕ) (r : Start) : Type 0 where
  pub read : Filled 5 hs r.input
  -- all of its text was passed to a write
  pub taken : Taken (length (header_text hs r.input)) r.output
  -- nothing follows if the read or the write failed
  pub rest : r.rest ≡ cond r.input.failed None (cond r.output.failed None (rest_of (header_in hs r.input)))
