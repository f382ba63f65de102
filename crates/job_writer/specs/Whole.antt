-- Whole files: the bytes of a header and of records, joined, and the records that reading finds. Assumes nothing.
use Rattle.std.specs.Prelude.{ℕ, ◌<◌, ◌≡◌, true, List, [], ◌∷◌, ◌++◌, Ok, None}
use Rattle.job_fields.specs.declared.version.Version.{Version}
use Rattle.job.specs.declared.cursor.Cursor.{Cursor}
use Rattle.job.specs.declared.record.Record.{Record}
use Rattle.job_fields.specs.Bytes.{byte_at}
use Rattle.job_fields.specs.Levels.{levels_of}
use Rattle.job.specs.Header.{header_of}
use Rattle.job.specs.Records.{read, record_at}
use Rattle.job_bytes.specs.Written.{header_bytes, takes_top, record_bytes}
use Rattle.job_bytes.specs.Patterns.{Patterns, Agrees}

-- every number of the list is below 256
abbrev pub Bytes : List ℕ → Type 0
Bytes bs = (i : ℕ) → byte_at bs i < 256

-- the record can be written: the version holds its top level, and its bit patterns have at most 32 bits
pub record Writable (v : Version) (r : Record) : Type 0 where
  pub top : takes_top v r.settings.top ≡ true
  pub patterns : Patterns r.bits

-- the record that reading returns after r was written
abbrev pub reread : Record → Record
reread r = record { kind = r.kind; settings = r.settings; levels = levels_of r.bits; bits = r.bits }

-- the bytes of records, joined
unfoldable pub records_bytes : Version → List Record → List ℕ
records_bytes v [] = []
records_bytes v (r ∷ rs) = record_bytes v r ++ records_bytes v rs

-- the bytes of a file
abbrev pub file_bytes : Version → List Record → List ℕ
file_bytes v rs = header_bytes v ++ records_bytes v rs

-- every record can be written, and its levels are those of its bit patterns
pub data AllWritable (v : Version) : List Record → Type 0 where
  none : AllWritable v []
  more : {r : Record} {rs : List Record} → Writable v r → Agrees r → AllWritable v rs → AllWritable v (r ∷ rs)

-- reading from `at` on returns these records and then the end, with no refusal
pub data ReadsBack (v : Version) (bs : List ℕ) : ℕ → List Record → Type 0 where
  ends : {at : ℕ} → record_at v bs at ≡ Ok None → ReadsBack v bs at []
  reads : {at : ℕ} {r : Record} {rs : List Record} (next : Cursor) → record_at v bs at ≡ read r next → ReadsBack v bs next.at rs → ReadsBack v bs at (r ∷ rs)

-- reading the file returns this version and these records
pub record Reads (v : Version) (bs : List ℕ) (rs : List Record) : Type 0 where
  pub first : Cursor
  pub header : header_of bs ≡ Ok (record { version = v; next = first })
  pub records : ReadsBack v bs first.at rs
