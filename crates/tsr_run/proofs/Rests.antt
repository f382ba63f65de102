-- The entries of a recording, chunk after chunk. Assumes nothing.
use Prim.Native.Nat.{ℕ, ◌+◌, ◌*◌, ◌≤◌, ◌<◌}
use mathlib.Core.Path.{◌≡◌, refl, sym, ap, subst, ◌∙◌}
use mathlib.Core.Bool.{true, false, true≢false}
use mathlib.Core.List.{List, [], ◌∷◌, ◌++◌, append-nil}
use native.Mathlib.Omega.{arith}
use lib.ListN.{length, take, length-append}
use Rattle.standard_streams.proofs.Fills.{filled_none, part_full, part_short}
use Rattle.replay.specs.Answer.{Replay}
use Rattle.replay.specs.Replays.{go_on, Countable}
use Rattle.replay.specs.Pieces.{joined_pieces, EntryPieces, last, more, answer_after, is_open}
use Rattle.replay.proofs.Pieces.{go_on_none, go_on_in_pieces}
use Rattle.tsr_pieces.specs.declared.piece.Chunk.{Chunk}
use Rattle.tsr_run.specs.declared.rest.Replayed.{Replayed}
use Rattle.tsr_pieces.specs.Pieces.{entry_chunk_size, ReplayedChunk}
use Rattle.tsr_run.specs.Rests.{replay_stopped_at, ReplayedChunks, ReplayedRest}
use Rattle.tsr_pieces.proofs.Countings.{countable_less, said_countable}

-- full chunks and a piece after them
pub two_pieces : {earlier : List ℕ} (chunks : ℕ) (piece : List ℕ) → length earlier ≡ entry_chunk_size * chunks → EntryPieces (earlier ∷ piece ∷ [])
two_pieces {earlier} chunks piece h = more {c = earlier} (256 * chunks) (omega arith) (last piece)

pub two_joined : (earlier piece : List ℕ) → joined_pieces (earlier ∷ piece ∷ []) ≡ earlier ++ piece
unfolding joined_pieces
two_joined earlier piece = rw (append-nil piece)

-- full chunks were read and replayed
pub record Full (start so_far : Replay) (read : ℕ) : Type 0 where
  pub earlier : List ℕ
  pub chunks : ℕ
  pub whole : length earlier ≡ entry_chunk_size * chunks
  pub counted : read ≡ length earlier
  pub is : so_far ≡ go_on start earlier

pub full_start : (start : Replay) → Full start start 0
full_start start = record { earlier = []; chunks = 0; whole = refl; counted = refl; is = sym (go_on_none start) }

-- a chunk that another chunk follows is full
pub full_more : {before : Replay} {bs : List ℕ} {r : Chunk} → ReplayedChunk before bs r → r.more ≡ true → r.input.count ≡ entry_chunk_size
full_more {r = r} a h = part_full r.input.count entry_chunk_size (is_open r.so_far) (sym a.more ∙ h)

module _ {start so_far : Replay} {read : ℕ} (f : Full start so_far read) where
  pub full_countable : Countable start 18446744073709551615 → read ≤ 9223372036854775808 → Countable so_far 256
  full_countable c l =
      subst (λ (x : Replay). Countable x 256) (sym f.is) (said_countable start f.earlier 256 (countable_less start (omega (arith, f.counted)) c))

  module _ {bs : List ℕ} {r : Chunk} (a : ReplayedChunk so_far bs r) where
    said_is : r.so_far ≡ answer_after start (f.earlier ∷ take r.input.count bs ∷ [])
    unfolding answer_after
    said_is = a.is ∙ ap (λ (x : Replay). go_on x (take r.input.count bs)) f.is

    pub full_step : r.more ≡ true → Full start r.so_far (read + r.input.count)
    full_step h =
        let piece = take r.input.count bs in
        record {
          earlier = f.earlier ++ piece;
          chunks = f.chunks + 1;
          whole = omega (arith, length-append f.earlier piece, a.read.counts, f.whole, full_more a h);
          counted = omega (arith, length-append f.earlier piece, a.read.counts, f.counted);
          is = said_is ∙ sym (go_on_in_pieces start (two_pieces f.chunks piece f.whole)) ∙ ap (go_on start) (two_joined f.earlier piece);
        }

    pub full_end : r.more ≡ false → ReplayedChunks start bs (record { read = read + r.input.count; last = r.input; answer = r.so_far })
    full_end h = record {
      earlier = f.earlier;
      chunks = f.chunks;
      whole = f.whole;
      last = a.read;
      read = omega (arith, f.counted);
      is = said_is;
      ended = λ _ o _. part_short r.input.count entry_chunk_size (is_open r.so_far) a.read.most (sym a.more ∙ h) o;
    }

  -- the limit of bytes is exceeded, so no more are read
  pub full_stop : (bs : List ℕ) {r : Replayed} → 9223372036854775808 < read → r ≡ replay_stopped_at read so_far → ReplayedChunks start bs r
  unfolding answer_after
  full_stop bs h e = rw e (record {
    earlier = f.earlier;
    chunks = f.chunks;
    whole = f.whole;
    last = filled_none bs;
    read = omega (arith, f.counted);
    is = f.is ∙ sym (go_on_none (go_on start f.earlier));
    ended = λ _ _ l. absurd (omega arith);
  })

-- the header is followed by entries, or it is refused
pub rest_chunks : {start : Replay} {bs : List ℕ} {r : Replayed} → is_open start ≡ true → ReplayedChunks start bs r → ReplayedRest start bs r
rest_chunks o a = record { chunked = a; none = λ n. absurd (true≢false (sym o ∙ n)) }

pub rest_none : {start : Replay} (bs : List ℕ) {r : Replayed} → is_open start ≡ false → r ≡ replay_stopped_at 0 start → ReplayedRest start bs r
unfolding answer_after
rest_none {start} bs n e = rw e (record {
  chunked = record {
    earlier = [];
    chunks = 0;
    whole = refl;
    last = filled_none bs;
    read = refl;
    is = sym (ap (λ (x : Replay). go_on x []) (go_on_none start) ∙ go_on_none start);
    ended = λ _ o _. absurd (true≢false (sym o ∙ n));
  };
  none = λ _. refl;
})
