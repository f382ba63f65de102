-- The writers write what was read as the same bytes. Assumes nothing.
use Prim.Native.Nat.{ℕ, ◌≤◌}
use native.Mathlib.Omega.{arith}
use mathlib.Core.Path.{◌≡◌, refl, sym, ap, ◌∙◌}
use mathlib.Core.Bool.{true, false, cond, Bool}
use mathlib.Core.List.{List, [], ◌∷◌}
use borrow.Author.Tests.{le-ltb}
use lib.Dec.{ltb}
use lib.ListN.{length, take, drop, get_or}
use Rattle.buffer.proofs.Laws.{over_front}
use Rattle.answer_codes.specs.AnswerCode.{AnswerCode, refused}
use Rattle.answer_codes.specs.Drew.{Drew}
use Rattle.job_fields.specs.declared.version.Version.{Version}
use Rattle.job.specs.declared.cursor.Cursor.{Cursor}
use Rattle.job.specs.declared.record.Record.{Record}
use Rattle.std.specs.Prelude.{Result, Ok}
use Rattle.job_fields.specs.Version.{record_size}
use Rattle.job.specs.Header.{header_of}
use Rattle.job.specs.Records.{read, record_at}
use Rattle.job_writer.specs.declared.answer.NoRoom.{NoRoom}
use Rattle.job_writer.specs.declared.answer.RecordRefusal.{RecordRefusal}
use Rattle.job_bytes.specs.Written.{header_bytes, takes_top}
use Rattle.job_writer.specs.Whole.{Bytes, Reads, records_bytes, file_bytes}
use Rattle.job_writer.specs.Answers.{wrote, header_code, record_code, bytes_verdict, record_verdict, WroteHeader, WroteRecord}
use Rattle.job_writer.specs.InTurn.{RecordsInTurn, none, more, FileInTurn}
use Rattle.job_bytes.proofs.Lengths.{header_length, record_length}
use Rattle.job_writer.proofs.Headers.{header_again}
use Rattle.job_writer.proofs.RoundTrip.{record_again}
use Rattle.job_writer.proofs.WholeFiles.{file_again}

-- a writer that answered `size` bytes wrote its bytes at the front
front : {t right : AnswerCode} {bytes xs xs' : List ℕ} {size : ℕ} → length bytes ≡ size → Drew t right bytes xs xs' → right ≡ wrote size → take size xs' ≡ bytes
front {bytes = bytes} {xs = xs} {size = size} n w e =
    let zero = ap (λ (x : AnswerCode). x.number) (w.answer ∙ e) in
    rw (rw zero at w.list) (over_front xs bytes size (sym n))

-- a header that was read, written into a list with room: the answer, and the same 5 bytes
pub header_rewritten : (v : Version) (bs : List ℕ) (next : Cursor) {xs xs' : List ℕ} {r : Result ℕ NoRoom} → Bytes bs → header_of bs ≡ Ok (record { version = v; next = next })
    → 5 ≤ length xs → WroteHeader v xs xs' r → (header_code r ≡ wrote 5) × (take 5 xs' ≡ take 5 bs)
header_rewritten v bs next {xs} b e h w =
    let right : bytes_verdict 5 (length xs) ≡ wrote 5 = rw (le-ltb _ _ h) in
    (w.wrote.answer ∙ right, front (header_length v) w.wrote right ∙ sym (header_again v bs next b e))

-- a record that was read, written in its version into a list with room: the answer, and the same 29 or 30 bytes
pub record_rewritten : (v : Version) (bs : List ℕ) (at : ℕ) (x : Record) (next : Cursor) {xs xs' : List ℕ} {r : Result ℕ RecordRefusal} → Bytes bs
    → record_at v bs at ≡ read x next → record_size v ≤ length xs → WroteRecord v x xs xs' r
    → (record_code r ≡ wrote (record_size v)) × (take (record_size v) xs' ≡ take (record_size v) (drop at bs))
record_rewritten v bs at x next {xs} b e h w =
    let again = record_again v bs at x next b e in
    let right : record_verdict v x (length xs) ≡ wrote (record_size v) = rw (again.0.top, le-ltb _ _ h) in
    (w.wrote.answer ∙ right, front (record_length v x) w.wrote right ∙ sym again.2)

-- ---- several calls

-- a writer that wrote n bytes wrote its whole record
room_wrote : (size have n : ℕ) → wrote n ≡ bytes_verdict size have → n ≡ size
room_wrote size have n = go (ltb have size)
  where
    go : (b : Bool) → wrote n ≡ cond b (refused 10) (wrote size) → n ≡ size
    go true e = absurd (omega (arith, ap (λ (t : AnswerCode). t.number) e))
    go false e = ap (λ (t : AnswerCode). get_or t.values 0 0) e

record_wrote : (v : Version) (x : Record) (have n : ℕ) → wrote n ≡ record_verdict v x have → n ≡ record_size v
record_wrote v x have n = go (takes_top v x.settings.top)
  where
    go : (b : Bool) → wrote n ≡ cond b (bytes_verdict (record_size v) have) (refused 11) → n ≡ record_size v
    go true e = room_wrote (record_size v) have n e
    go false e = absurd (omega (arith, ap (λ (t : AnswerCode). t.number) e))

records_in_turn : (v : Version) (xs : List Record) {ys : List ℕ} → RecordsInTurn v xs ys → ys ≡ records_bytes v xs
unfolding records_bytes
records_in_turn v [] none = refl
records_in_turn v (x ∷ xs) (more {n = n} w rest) =
    let size = record_wrote v x _ n w.wrote.answer in
    rw (size, front (record_length v x) w.wrote (sym w.wrote.answer ∙ ap wrote size), records_in_turn v xs rest)

-- the bytes that the calls wrote, joined, are the file
pub file_in_turn : (v : Version) (xs : List Record) {bs : List ℕ} → FileInTurn v xs bs → bs ≡ file_bytes v xs
file_in_turn v xs w =
    let size = room_wrote 5 (length w.l) w.n w.header.wrote.answer in
    let head : take w.n w.l' ≡ header_bytes v = rw size (front (header_length v) w.header.wrote (sym w.header.wrote.answer ∙ ap wrote size)) in
    w.is ∙ rw (head, records_in_turn v xs w.records)

-- a file in which every record was read, written again record by record, is the same bytes
pub file_rewritten : (v : Version) (bs : List ℕ) (xs : List Record) {bs' : List ℕ} → Bytes bs → Reads v bs xs → FileInTurn v xs bs' → bs' ≡ bs
file_rewritten v bs xs b r w = file_in_turn v xs w ∙ sym (file_again v bs xs b r).0
