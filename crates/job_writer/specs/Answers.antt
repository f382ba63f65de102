-- The answers of the two writers, and the list at exit. Assumes nothing.
use Rattle.std.specs.Prelude.{ℕ, ◌≡◌, cond, List, ltb, length, Result, Ok, Err}
use Rattle.answer_codes.specs.AnswerCode.{AnswerCode, refused, drew}
use Rattle.answer_codes.specs.Drew.{Drew}
use Rattle.job_fields.specs.declared.version.Version.{Version}
use Rattle.job.specs.declared.record.Record.{Record}
use Rattle.job_fields.specs.Version.{record_size}
use Rattle.job.specs.Header.{header_with, header_of}
use Rattle.job.specs.Records.{read, record_at, cursor_after}
use Rattle.job_writer.specs.declared.answer.NoRoom.{NoRoom}
use Rattle.job_writer.specs.declared.answer.RecordRefusal.{RecordRefusal}
use Rattle.job_writer.specs.declared.answer.RecordRefusal.TheVariants as refusal
use Rattle.job_bytes.specs.Written.{header_bytes, takes_top, record_bytes}
use Rattle.job_writer.specs.Whole.{reread}

-- answer 0, written, with the number of bytes
abbrev pub wrote : ℕ → AnswerCode
wrote n = drew n

-- the numbers and values of the answers
abbrev pub header_code : Result ℕ NoRoom → AnswerCode
header_code (Ok n) = wrote n
header_code (Err e) = refused 10

abbrev pub record_code : Result ℕ RecordRefusal → AnswerCode
record_code (Ok n) = wrote n
record_code (Err refusal.NoRoom) = refused 10
record_code (Err refusal.BadTop) = refused 11

-- the answer for `size` bytes and a list of `have`
abbrev pub bytes_verdict : ℕ → ℕ → AnswerCode
bytes_verdict size have = cond (ltb have size) (refused 10) (wrote size)

-- the answer to writing a record: a bad top level first
abbrev pub record_verdict : Version → Record → ℕ → AnswerCode
record_verdict v r have = cond (takes_top v r.settings.top) (bytes_verdict (record_size v) have) (refused 11)

-- the contract of writing a header, where xs and xs' are the list at entry and at exit: 5 bytes are written to the front, or
-- the list is unchanged
pub record WroteHeader (v : Version) (xs xs' : List ℕ) (r : Result ℕ NoRoom) : Type 0 where
  pub wrote : Drew (header_code r) (bytes_verdict 5 (length xs)) (header_bytes v) xs xs'
  -- the written bytes read back as the version
  pub back : (header_code r).number ≡ 0 → header_of xs' ≡ Ok (header_with v)

-- the contract of writing a record: 29 or 30 bytes, with the record's bit patterns; its f32 levels do not matter
pub record WroteRecord (v : Version) (x : Record) (xs xs' : List ℕ) (r : Result ℕ RecordRefusal) : Type 0 where
  pub wrote : Drew (record_code r) (record_verdict v x (length xs)) (record_bytes v x) xs xs'
  -- the written bytes read back as the same kind, settings and bit patterns
  pub back : (record_code r).number ≡ 0 → record_at v xs' 0 ≡ read (reread x) (cursor_after v 0)
