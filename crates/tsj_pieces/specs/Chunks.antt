-- The contract of reading and answering a chunk of records. Assumes nothing.
use Rattle.std.specs.Prelude.{ℕ, ◌*◌, ◌≤◌, ◌≡◌, cond, not, ◌&&◌, List, [], eqb, length, take}
use Rattle.standard_streams.specs.Moved.{Filled, Taken}
use Rattle.standard_streams.specs.declared.input.Input.{Input}
use Rattle.job_fields.specs.declared.version.Version.{Version}
use Rattle.job_fields.specs.Version.{record_size}
use Rattle.job_text.specs.Jobs.{answers_from}
use Rattle.job_text.specs.Reported.{Reported}
use Rattle.tsj_pieces.specs.declared.chunk.Step.{Step}
use Rattle.tsj_pieces.specs.declared.chunk.Chunk.{Chunk}

-- the text of some records is at the front of out, and all of it was passed to a write
pub record AnsweredSome (v : Version) (bs : List ℕ) (from : ℕ) (out : List ℕ) (r : Step) : Type 0 where
  pub reported : Reported v bs from out r.progress
  pub taken : Taken r.progress.written r.output

-- the size of a full chunk in bytes
abbrev pub record_chunk_size : Version → ℕ
record_chunk_size v = record_size v * 256

-- the text that answers the records in the bytes that were read to the front of bs; empty if the read failed
abbrev pub chunk_text : Version → List ℕ → Input → List ℕ
chunk_text v bs input = cond input.failed [] (answers_from v (take input.count bs) 0)

-- bs is the list for the records, after the call
pub record AnsweredChunk (v : Version) (bs : List ℕ) (r : Chunk) : Type 0 where
  pub read : Filled (record_chunk_size v) bs r.input
  -- all of their text was passed to writes, up to one that failed
  pub taken : Taken (length (chunk_text v bs r.input)) r.output
  pub most : r.output.count ≤ 4026531840
  -- another chunk follows exactly if this one is full and no write failed
  pub more : r.more ≡ (eqb r.input.count (record_chunk_size v) && not r.output.failed)
