-- The answer of a run is that of all bytes that it read. Assumes nothing.
use Prim.Native.Nat.{ℕ, ◌+◌, ◌*◌, ◌≤◌}
use mathlib.Core.Path.{◌≡◌, refl, sym, ap, ◌∙◌}
use mathlib.Core.Bool.{Bool, true, false, cond, ◌||◌}
use mathlib.Core.List.{List, [], ◌∷◌, ◌++◌, append-nil}
use native.Mathlib.Omega.{arith}
use lib.ListN.{length, take}
use Rattle.standard_streams.specs.declared.output.Output.{Output}
use Rattle.standard_streams.specs.Moved.{Taken}
use Rattle.replay.specs.Answer.{Replay}
use Rattle.replay.specs.Replays.{replay_start, go_on, replay_of}
use Rattle.replay.specs.Pieces.{answer_after, is_open}
use Rattle.replay.proofs.Headers.{start_open}
use Rattle.replay.proofs.Pieces.{go_on_none, replay_header, recording_in_pieces}
use Rattle.tsr_pieces.specs.declared.piece.Start.{Start}
use Rattle.tsr_run.specs.declared.rest.Replayed.{Replayed}
use Rattle.tsr_line.specs.Sentences.{replay_line}
use Rattle.tsr_pieces.specs.Pieces.{entry_chunk_size, ReplayedHeader}
use Rattle.tsr_run.specs.Rests.{ReplayedRest}
use Rattle.tsr_run.specs.Runs.{ReplayRan}
use Rattle.tsr_run.proofs.Rests.{two_pieces, two_joined}

-- a header of five bytes, full chunks and a piece after them
said_whole : (hs earlier piece : List ℕ) (chunks : ℕ) → length hs ≤ 5 → length earlier ≡ entry_chunk_size * chunks → is_open (replay_start hs) ≡ true
    → answer_after (replay_start hs) (earlier ∷ piece ∷ []) ≡ replay_of (hs ++ (earlier ++ piece))
said_whole hs earlier piece chunks l w o =
    let five = start_open hs o in
    sym (recording_in_pieces hs (earlier ∷ piece ∷ []) (omega arith) (two_pieces chunks piece w)) ∙ ap (λ (bs : List ℕ). replay_of (hs ++ bs)) (two_joined earlier piece)

-- a header, and nothing after it
said_header : (hs earlier piece : List ℕ) → length hs ≤ 5 → length earlier + length piece ≡ 0 → answer_after (replay_start hs) (earlier ∷ piece ∷ []) ≡ replay_of (hs ++ (earlier ++ piece))
unfolding answer_after
said_header hs [] [] l e = rw (append-nil hs) (ap (λ (x : Replay). go_on x []) (go_on_none (replay_start hs)) ∙ go_on_none (replay_start hs) ∙ sym (replay_header hs l))
said_header hs [] (x ∷ xs) l e = absurd (omega arith)
said_header hs (x ∷ xs) piece l e = absurd (omega arith)

module _ {hs bs : List ℕ} {start : Start} {r : Replayed} (h : ReplayedHeader hs start) (b : ReplayedRest start.so_far bs r) where
  answer_is : r.answer ≡ replay_of (take start.input.count hs ++ (b.chunked.earlier ++ take r.last.count bs))
  answer_is =
      let front = take start.input.count hs in
      b.chunked.is ∙ ap (λ (x : Replay). answer_after x (b.chunked.earlier ∷ take r.last.count bs ∷ [])) h.is
      ∙ go (is_open (replay_start front)) refl
    where
      go : (t : Bool) → is_open (replay_start (take start.input.count hs)) ≡ t
          → answer_after (replay_start (take start.input.count hs)) (b.chunked.earlier ∷ take r.last.count bs ∷ [])
          ≡ replay_of (take start.input.count hs ++ (b.chunked.earlier ++ take r.last.count bs))
      go true o = said_whole _ b.chunked.earlier _ b.chunked.chunks (omega (arith, h.read.counts, h.read.most)) b.chunked.whole o
      go false o =
          said_header _ b.chunked.earlier _ (omega (arith, h.read.counts, h.read.most))
          (omega (arith, b.chunked.read, b.chunked.last.counts, b.none (ap is_open h.is ∙ o)))

  pub ran : {output : Output} → Taken (length (cond (start.input.failed || r.last.failed) [] (replay_line r.answer))) output
      → ReplayRan hs bs (record { header = start.input; read = r.read; last = r.last; answer = r.answer; output = output })
  ran t = record {
    header = h.read;
    earlier = b.chunked.earlier;
    chunks = b.chunked.chunks;
    whole = b.chunked.whole;
    last = b.chunked.last;
    read = b.chunked.read;
    is = answer_is;
    line = t;
    ended = b.chunked.ended;
  }
