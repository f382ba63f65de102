-- The contract of a run: the answer is that of all bytes that were read. Assumes nothing.
use Rattle.std.specs.Prelude.{ℕ, ◌+◌, ◌*◌, ◌≤◌, ◌<◌, ◌≡◌, true, false, cond, ◌||◌, List, [], ◌++◌, length, take}
use Rattle.standard_streams.specs.Moved.{Filled, Taken}
use Rattle.replay.specs.Replays.{replay_of}
use Rattle.replay.specs.Pieces.{is_open}
use Rattle.tsr_run.specs.declared.run.ReplayOutcome.{ReplayOutcome}
use Rattle.tsr_line.specs.Sentences.{replay_line}
use Rattle.tsr_pieces.specs.Pieces.{entry_chunk_size}

-- hs and bs are the lists for the header and for the entries, after the call
pub record ReplayRan (hs bs : List ℕ) (r : ReplayOutcome) : Type 0 where
  pub header : Filled 5 hs r.header
  -- the bytes of the full chunks that were replayed before the last chunk was read to the front of bs
  pub earlier : List ℕ
  pub chunks : ℕ
  pub whole : length earlier ≡ entry_chunk_size * chunks
  pub last : Filled entry_chunk_size bs r.last
  -- every byte after the header is counted
  pub read : r.read ≡ length earlier + r.last.count
  -- the answer is that of all bytes
  pub is : r.answer ≡ replay_of (take r.header.count hs ++ (earlier ++ take r.last.count bs))
  -- all of its line was passed to a write, and nothing if a read failed
  pub line : Taken (length (cond (r.header.failed || r.last.failed) [] (replay_line r.answer))) r.output
  -- unless a read failed or the answer is settled, reading stops only at the end of the input, or after more than 2^63 bytes
  pub ended : r.last.failed ≡ false → is_open r.answer ≡ true → r.read ≤ 9223372036854775808 → r.last.count < entry_chunk_size
