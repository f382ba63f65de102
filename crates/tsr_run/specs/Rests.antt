-- The contract of reading and replaying the entries of a recording chunk by chunk. Assumes nothing.
use Rattle.std.specs.Prelude.{ℕ, ◌+◌, ◌*◌, ◌≤◌, ◌<◌, ◌≡◌, true, false, List, [], ◌∷◌, length, take}
use Rattle.standard_streams.specs.Moved.{Filled}
use Rattle.replay.specs.Answer.{Replay}
use Rattle.replay.specs.Pieces.{answer_after, is_open}
use Rattle.tsr_run.specs.declared.rest.Replayed.{Replayed}
use Rattle.tsr_pieces.specs.Pieces.{entry_chunk_size}

-- the result of a run that stopped after these bytes, with no read that failed
abbrev pub replay_stopped_at : ℕ → Replay → Replayed
replay_stopped_at read answer = record { read = read; last = record { count = 0; failed = false }; answer = answer }

-- bs is the list for the entries, after the call; start is the answer after the header
pub record ReplayedChunks (start : Replay) (bs : List ℕ) (r : Replayed) : Type 0 where
  -- the bytes of the full chunks that were replayed before the last chunk was read to the front of bs
  pub earlier : List ℕ
  pub chunks : ℕ
  pub whole : length earlier ≡ entry_chunk_size * chunks
  pub last : Filled entry_chunk_size bs r.last
  -- every byte is counted
  pub read : r.read ≡ length earlier + r.last.count
  pub is : r.answer ≡ answer_after start (earlier ∷ take r.last.count bs ∷ [])
  -- unless a read failed or the answer is settled, reading stops only at the end of the input, or after more than 2^63 bytes
  pub ended : r.last.failed ≡ false → is_open r.answer ≡ true → r.read ≤ 9223372036854775808 → r.last.count < entry_chunk_size

-- the same, and nothing was read if the header settles the answer
pub record ReplayedRest (start : Replay) (bs : List ℕ) (r : Replayed) : Type 0 where
  pub chunked : ReplayedChunks start bs r
  pub none : is_open start ≡ false → r.read ≡ 0
