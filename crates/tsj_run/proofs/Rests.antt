-- The records of a job, chunk after chunk. Assumes nothing.
use Prim.Native.Nat.{ℕ, ◌+◌, ◌*◌, ◌≤◌, ◌<◌}
use mathlib.Core.Path.{◌≡◌, refl, sym, ap, subst, ◌∙◌}
use mathlib.Core.Bool.{Bool, true, false, cond, not, ◌&&◌, true≢false}
use mathlib.Core.List.{List, [], ◌++◌, append-nil}
use native.Mathlib.Decide.{dec_le}
use native.Mathlib.Nat.{mul-zero}
use native.Mathlib.Omega.{arith}
use borrow.Author.Tests.{not-true, leb-true, le-leb}
use lib.Dec.{eqb, leb}
use lib.ListN.{length, take, length-append}
use Rattle.standard_streams.proofs.Fills.{filled_none, filled_read, both, part_full, part_short}
use Rattle.standard_streams.proofs.Takes.{taken_all, taken_whole, taken_after}
use Rattle.job_fields.specs.declared.version.Version.{Version}
use Rattle.std.specs.Prelude.{Option, Some, None}
use Rattle.job_text.specs.Jobs.{answers_from}
use Rattle.job_text.specs.Pieces.{piece_texts}
use Rattle.job_text.proofs.Sizes.{settings_least}
use Rattle.job_text.proofs.Steps.{answers_end}
use Rattle.job_text.proofs.Pieces.{answers_both}
use Rattle.tsj_pieces.specs.declared.chunk.Chunk.{Chunk}
use Rattle.tsj_run.specs.declared.records.Answered.{Answered}
use Rattle.tsj_pieces.specs.Chunks.{record_chunk_size, chunk_text, AnsweredChunk}
use Rattle.tsj_run.specs.Rests.{pieces, job_stopped_at, AnsweredRest}

-- full chunks were read and answered
pub record Full (v : Version) (read written : ℕ) : Type 0 where
  pub earlier : List ℕ
  pub chunks : ℕ
  pub whole : length earlier ≡ record_chunk_size v * chunks
  pub counted : read ≡ length earlier
  pub text : written ≡ length (answers_from v earlier 0)

pub full_start : (v : Version) → Full v 0 0
full_start v = record { earlier = []; chunks = 0; whole = sym (mul-zero (record_chunk_size v)); counted = refl; text = sym (ap length (answers_end v [] 0 0 (omega arith))) }

-- the text of the pieces is that of the full chunks and that of the last one
pieces_text : (v : Version) (earlier last : List ℕ) (t : Bool)
    → length (piece_texts v (pieces t earlier last)) ≡ length (answers_from v earlier 0) + length (cond t [] (answers_from v last 0))
unfolding piece_texts
pieces_text v earlier last true = length-append (answers_from v earlier 0) []
pieces_text v earlier last false = length-append (answers_from v earlier 0) (answers_from v last 0 ++ []) ∙ rw (append-nil (answers_from v last 0))

-- both numbers are at most m, or their sum is past it
pub within : (a b m : ℕ) → (leb a m && leb b m) ≡ true → (a ≤ m) × (b ≤ m)
within a b m h =
    let tests = both (leb a m) (leb b m) h in
    (leb-true a m tests.0, leb-true b m tests.1)

pub beyond : (a b m : ℕ) → (leb a m && leb b m) ≡ false → m < a + b
beyond a b m h = elim (dec_le (a + b) m) [
  | yes l ↦ absurd (true≢false (sym (rw (le-leb a m (omega arith), le-leb b m (omega arith))) ∙ h))
  | no l ↦ omega arith
]

-- a chunk that another chunk follows is full
full_size : {v : Version} {bs : List ℕ} {r : Chunk} → AnsweredChunk v bs r → r.more ≡ true → r.input.count ≡ record_chunk_size v
full_size {v} {bs} {r} a h = part_full r.input.count (record_chunk_size v) (not r.output.failed) (sym a.more ∙ h)

-- a full chunk is not empty
pub full_more : {v : Version} {bs : List ℕ} {r : Chunk} → AnsweredChunk v bs r → r.more ≡ true → 0 < r.input.count
full_more {v} a h = omega (arith, full_size a h, settings_least v)

module _ {v : Version} {read written : ℕ} (f : Full v read written) where
  module _ {bs : List ℕ} {r : Chunk} (a : AnsweredChunk v bs r) where
    last_length : length (take r.input.count bs) ≡ r.input.count
    last_length = sym a.read.counts.1

    pub full_step : r.more ≡ true → Full v (read + r.input.count) (written + r.output.count)
    full_step h =
        let full = full_size a h in
        let written_All = (both (eqb r.input.count (record_chunk_size v)) (not r.output.failed) (sym a.more ∙ h)).1 in
        let last = take r.input.count bs in
        let taken = taken_whole a.taken (not-true r.output.failed written_All) in
        let text : length (chunk_text v bs r.input) ≡ length (answers_from v last 0) = rw (filled_read a.read full) in
        record {
          earlier = f.earlier ++ last;
          chunks = f.chunks + 1;
          whole = omega (arith, length-append f.earlier last, last_length, f.whole);
          counted = omega (arith, length-append f.earlier last, last_length, f.counted);
          text =
              (let e : written + r.output.count ≡ length (answers_from v f.earlier 0) + length (answers_from v last 0) = omega (arith, f.text) in e)
              ∙ sym (length-append (answers_from v f.earlier 0) (answers_from v last 0)) ∙ ap length (sym (answers_both v f.earlier last (256 * f.chunks) (omega (arith, f.whole))));
        }

    pub full_end : r.more ≡ false
        → AnsweredRest (Some v) bs (record { read = read + r.input.count; last = r.input; output = record { count = written + r.output.count; failed = r.output.failed } })
    full_end h = record {
      earlier = f.earlier;
      chunks = f.chunks;
      whole = f.whole;
      last = a.read;
      read = omega (arith, f.counted);
      taken = rw (pieces_text v f.earlier (take r.input.count bs) r.input.failed, f.text) (taken_after a.taken (length (answers_from v f.earlier 0)));
      before = omega (arith, f.text, pieces_text v f.earlier [] true);
      ended = λ _ o _. part_short r.input.count (record_chunk_size v) (not r.output.failed) a.read.most (sym a.more ∙ h) (ap not o);
    }

  -- the limit of bytes read or written is exceeded, so no more are read
  pub full_stop : (bs : List ℕ) → 9223372036854775808 < read + written → AnsweredRest (Some v) bs (job_stopped_at read written)
  full_stop bs h = record {
    earlier = f.earlier;
    chunks = f.chunks;
    whole = f.whole;
    last = filled_none bs;
    read = omega (arith, f.counted);
    taken =
        rw (pieces_text v f.earlier [] false, answers_end v [] 0 0 (omega arith)) (taken_all (omega (arith, f.text)) (omega (arith, f.text)));
    before = omega (arith, f.text, pieces_text v f.earlier [] true);
    ended = λ _ _ l. absurd (omega arith);
  }

-- what follows is known
pub rest_records : {rest : Option Version} {v : Version} {bs : List ℕ} {r : Answered} → rest ≡ Some v → AnsweredRest (Some v) bs r → AnsweredRest rest bs r
rest_records {bs = bs} {r = r} e a = subst (λ (x : Option Version). AnsweredRest x bs r) (sym e) a

pub rest_none : {rest : Option Version} (bs : List ℕ) {r : Answered} → rest ≡ None → r ≡ job_stopped_at 0 0 → AnsweredRest rest bs r
rest_none bs e f = rw (e, f) (record {
  earlier = [];
  chunks = 0;
  whole = refl;
  last = filled_none bs;
  read = refl;
  taken = taken_all (omega arith) (omega arith);
  before = omega arith;
  ended = λ _ _ _. tt;
})
