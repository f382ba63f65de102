-- The contract of reading and answering the records of a job chunk by chunk. Assumes nothing.
use Rattle.std.specs.Prelude.{ℕ, ◌+◌, ◌*◌, ◌≤◌, ◌<◌, ◌≡◌, Bool, true, false, List, [], ◌∷◌, length, take}
use Rattle.standard_streams.specs.Moved.{Filled, Taken}
use Rattle.job_fields.specs.declared.version.Version.{Version}
use Rattle.std.specs.Prelude.{Option, Some, None}
use Rattle.job_text.specs.Pieces.{said_after}
use Rattle.tsj_run.specs.declared.records.Answered.{Answered}
use Rattle.tsj_pieces.specs.Chunks.{record_chunk_size}

-- the size in bytes of a full chunk of what follows a header
abbrev pub rest_size : Option Version → ℕ
rest_size (Some v) = record_chunk_size v
rest_size None = 0

-- the pieces that are answered: the full chunks, and the last chunk unless reading it failed
abbrev pub pieces : Bool → List ℕ → List ℕ → List (List ℕ)
pieces true earlier last = earlier ∷ []
pieces false earlier last = earlier ∷ last ∷ []

-- if records follow, n bytes are less than a full chunk
abbrev pub NotFull : Option Version → ℕ → Type 0
NotFull (Some v) n = n < record_chunk_size v
NotFull None n = Unit {0}

-- the result of a run that stopped after these counts, with no read that failed
abbrev pub job_stopped_at : ℕ → ℕ → Answered
job_stopped_at read written = record { read = read; last = record { count = 0; failed = false }; output = record { count = written; failed = false } }

-- bs is the list for the records, after the call
pub record AnsweredRest (rest : Option Version) (bs : List ℕ) (r : Answered) : Type 0 where
  -- the bytes of the full chunks that were answered before the last chunk was read to the front of bs
  pub earlier : List ℕ
  pub chunks : ℕ
  pub whole : length earlier ≡ rest_size rest * chunks
  pub last : Filled (rest_size rest) bs r.last
  -- every byte is counted
  pub read : r.read ≡ length earlier + r.last.count
  -- all text of the pieces was passed to writes, up to one that failed
  pub taken : Taken (length (said_after rest (pieces r.last.failed earlier (take r.last.count bs)))) r.output
  -- nothing was read after a failed write: all text of the full chunks before the last chunk was written
  pub before : length (said_after rest (earlier ∷ [])) ≤ r.output.count
  -- unless something failed, reading stops only at the end of the input, or after more than 2^63 bytes were read and written
  pub ended : r.last.failed ≡ false → r.output.failed ≡ false → r.read + r.output.count ≤ 9223372036854775808 → NotFull rest r.last.count
