-- The contract of reading and replaying a piece of a recording. Assumes nothing.
use Rattle.std.specs.Prelude.{ℕ, ◌≡◌, ◌&&◌, List, eqb, take}
use Rattle.standard_streams.specs.Moved.{Filled}
use Rattle.replay.specs.Answer.{Replay}
use Rattle.replay.specs.Replays.{replay_start, go_on}
use Rattle.replay.specs.Pieces.{is_open}
use Rattle.tsr_pieces.specs.declared.piece.Start.{Start}
use Rattle.tsr_pieces.specs.declared.piece.Chunk.{Chunk}

-- hs is the list for the header, after the call
pub record ReplayedHeader (hs : List ℕ) (r : Start) : Type 0 where
  pub read : Filled 5 hs r.input
  pub is : r.so_far ≡ replay_start (take r.input.count hs)

-- the size of a full chunk in bytes: 256 entries
abbrev pub entry_chunk_size : ℕ
entry_chunk_size = 8704

-- bs is the list for the entries, after the call
pub record ReplayedChunk (before : Replay) (bs : List ℕ) (r : Chunk) : Type 0 where
  pub read : Filled entry_chunk_size bs r.input
  pub is : r.so_far ≡ go_on before (take r.input.count bs)
  -- another chunk follows exactly if this one is full and a further piece can change the answer
  pub more : r.more ≡ (eqb r.input.count entry_chunk_size && is_open r.so_far)
