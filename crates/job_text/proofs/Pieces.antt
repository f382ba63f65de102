-- A job that is read in pieces has the same text as one that is read whole. Assumes nothing.
use Prim.Native.Nat.{ℕ, zero, suc, ◌+◌, ◌-◌, ◌*◌, ◌≤◌, ◌<◌}
use mathlib.Core.Path.{◌≡◌, refl, sym, ap, ◌∙◌}
use mathlib.Core.Bool.{Bool, ◌&&◌}
use mathlib.Core.List.{List, [], ◌∷◌, ◌++◌, append_assoc, append-nil}
use native.Mathlib.Decide.{dec_le}
use native.Mathlib.Nat.{add-zero}
use native.Mathlib.Omega.{arith}
use borrow.Author.Tests.{lt-leb, lt-ltb, le-ltb}
use lib.Dec.{eqb}
use lib.ListN.{length, length-append}
use Rattle.job_fields.specs.declared.version.Version.{Version}
use Rattle.job.specs.declared.cursor.Cursor.{Cursor}
use Rattle.job.specs.declared.header.Header.{Header}
use Rattle.job.specs.declared.header.HeaderError.{HeaderError}
use Rattle.std.specs.Prelude.{Result, Ok, Err}
use Rattle.job_fields.specs.Version.{record_size}
use Rattle.job.specs.Header.{job_mark, starts_with, header_of, HeaderMeans}
use Rattle.job.specs.Records.{record_at}
use Rattle.job.proofs.Headers.{header_exactly}
use Rattle.job_record_text.specs.Replies.{record_reply, goes_on}
use Rattle.job_text.specs.Jobs.{record_texts, answers_from, start_text, rest_text, job_text, rest_of}
use Rattle.job_text.specs.Pieces.{joined_pieces, RecordPieces, none, last, more, piece_texts, WholeAfter, said_after, said_of}
use Rattle.job_text.proofs.Steps.{goes_on_lem, answers_end, answers_same, answers_step}
use Rattle.job_text.proofs.Same.{agree_after, agree_before, word_agrees, reply_agrees}

-- ---- bytes before the records

module _ (v : Version) (hs bs : List ℕ) where
  length_both : length (hs ++ bs) ≡ length hs + length bs
  length_both = length-append hs bs

  after_reply : (at : ℕ) → at < length bs → record_reply (record_at v (hs ++ bs) (length hs + at)) ≡ record_reply (record_at v bs at)
  after_reply at h =
      let left : length (hs ++ bs) - (length hs + at) ≡ length bs - at = omega (arith, length_both) in
      reply_agrees (hs ++ bs) bs v (length hs + at) at (agree_after (record_size v) hs bs at)
      (lt-leb (length (hs ++ bs)) (length hs + at) (omega (arith, length_both)) ∙ sym (lt-leb (length bs) at h))
      (rw left)

  answers_after : (k at : ℕ) → record_texts v k (hs ++ bs) (length hs + at) ≡ record_texts v k bs at
  unfolding record_texts
  answers_after zero at = refl
  answers_after (suc k) at =
      elim (dec_le (length bs) at) [
        | yes e ↦ answers_end v (hs ++ bs) (suc k) (length hs + at) (omega (arith, length_both)) ∙ sym (answers_end v bs (suc k) at e)
        | no e ↦
            let next : goes_on (length (hs ++ bs)) (record_at v (hs ++ bs) (length hs + at)) ≡ length hs + goes_on (length bs) (record_at v bs at) =
            omega (arith, length_both, goes_on_lem v (hs ++ bs) (length hs + at) (omega (arith, length_both)), goes_on_lem v bs at (omega arith)) in
            rw (after_reply at (omega arith), next, answers_after k (goes_on (length bs) (record_at v bs at)))
      ]

  pub answers_past : answers_from v (hs ++ bs) (length hs) ≡ answers_from v bs 0
  answers_past =
      let k = length (hs ++ bs) in
      ap (record_texts v k (hs ++ bs)) (sym (add-zero (length hs))) ∙ answers_after k 0 ∙ answers_same v bs k (length bs) 0 (omega (arith, length_both)) (omega arith)

-- ---- whole records, then others

module _ (v : Version) (bs cs : List ℕ) where
  before_reply : (at : ℕ) → at + record_size v ≤ length bs → record_reply (record_at v (bs ++ cs) at) ≡ record_reply (record_at v bs at)
  before_reply at h =
      reply_agrees (bs ++ cs) bs v at at (agree_before (record_size v) bs cs at h)
      (lt-leb (length (bs ++ cs)) at (omega (arith, length-append bs cs)) ∙ sym (lt-leb (length bs) at (omega arith)))
      (le-ltb (length (bs ++ cs) - at) (record_size v) (omega (arith, length-append bs cs)) ∙ sym (le-ltb (length bs - at) (record_size v) (omega arith)))

  answers_before : (n at : ℕ) → length bs ≡ at + record_size v * n → answers_from v (bs ++ cs) at ≡ answers_from v bs at ++ answers_from v (bs ++ cs) (length bs)
  answers_before zero at h =
      let e : at ≡ length bs = omega arith in
      rw (answers_end v bs (length bs) at (omega arith), e)
  answers_before (suc n) at h =
      let whole : goes_on (length (bs ++ cs)) (record_at v (bs ++ cs) at) ≡ at + record_size v = omega (arith, length-append bs cs, goes_on_lem v (bs ++ cs) at (omega (arith, length-append bs cs))) in
      let part : goes_on (length bs) (record_at v bs at) ≡ at + record_size v = omega (arith, goes_on_lem v bs at (omega arith)) in
      answers_step v (bs ++ cs) at
      ∙ rw (before_reply at (omega arith), whole, answers_before n (at + record_size v) (omega arith), answers_step v bs at, part)
      (sym (append_assoc (record_reply (record_at v bs at)) (answers_from v bs (at + record_size v)) (answers_from v (bs ++ cs) (length bs))))

  pub answers_both : (n : ℕ) → length bs ≡ record_size v * n → answers_from v (bs ++ cs) 0 ≡ answers_from v bs 0 ++ answers_from v cs 0
  answers_both n h = answers_before n 0 (omega arith) ∙ rw (answers_past v bs cs)

-- pieces of whole records
pub in_pieces : {v : Version} {cs : List (List ℕ)} → RecordPieces v cs → answers_from v (joined_pieces cs) 0 ≡ piece_texts v cs
unfolding joined_pieces piece_texts record_texts
in_pieces none = refl
in_pieces {v} (last c) = rw (append-nil c, append-nil (answers_from v c 0))
in_pieces {v} (more {c} {cs} n h w) = answers_both v c (joined_pieces cs) n h ∙ ap (λ (l : List ℕ). answers_from v c 0 ++ l) (in_pieces w)

-- ---- the header

starts_same : (ms hs bs : List ℕ) → length ms ≤ length hs → starts_with ms (hs ++ bs) ≡ starts_with ms hs
unfolding starts_with
starts_same [] hs bs l = refl
starts_same (m ∷ ms) [] bs l = absurd (omega arith)
starts_same (m ∷ ms) (h ∷ hs) bs l = ap (λ (t : Bool). eqb h m && t) (starts_same ms hs bs (omega arith))

header_same : (hs bs : List ℕ) → length hs ≡ 5 → header_of (hs ++ bs) ≡ header_of hs
unfolding header_of
header_same hs bs h =
    rw (
      le-ltb (length (hs ++ bs)) 5 (omega (arith, length-append hs bs)),
      le-ltb (length hs) 5 (omega arith),
      starts_same job_mark hs bs (omega arith),
      word_agrees (hs ++ bs) hs 2 3 3 (agree_before 2 hs bs 3 (omega arith)),
    )

-- the text after a header of five bytes, in pieces
rest_in_pieces : (hs : List ℕ) (cs : List (List ℕ)) → length hs ≡ 5 → (r : Result Header HeaderError) → HeaderMeans hs r → WholeAfter (rest_of r) cs
    → rest_text (hs ++ joined_pieces cs) r ≡ said_after (rest_of r) cs
rest_in_pieces hs cs h (Err e) m w = refl
rest_in_pieces hs cs h (Ok header) m w =
    let first : header.next.at ≡ length hs = ap (λ (x : Cursor). x.at) m.3 ∙ sym h in
    rw first (answers_past header.version hs (joined_pieces cs) ∙ in_pieces w)

-- a header of five bytes, then pieces
pub job_in_pieces : (hs : List ℕ) (cs : List (List ℕ)) → length hs ≡ 5 → WholeAfter (rest_of (header_of hs)) cs → job_text (hs ++ joined_pieces cs) ≡ said_of hs cs
unfolding job_text
job_in_pieces hs cs h w =
    rw (header_same hs (joined_pieces cs) h)
    (ap (λ (l : List ℕ). start_text (header_of hs) ++ l) (rest_in_pieces hs cs h (header_of hs) ((header_exactly hs (header_of hs)).0 refl) w))

-- fewer than five bytes in all
pub job_of_few_bytes : (hs : List ℕ) → length hs < 5 → job_text hs ≡ said_of hs []
unfolding job_text header_of
job_of_few_bytes hs h = rw (lt-ltb (length hs) 5 h)
