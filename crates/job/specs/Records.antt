-- The record at a cursor: what is read there, and the numbers of refusals. Assumes nothing.
use Rattle.std.specs.Prelude.{ℕ, ◌+◌, ◌-◌, ◌≤◌, ◌<◌, ◌≡◌, Bool, cond, List, [], ◌∷◌, ◌↔◌, length, leb, ltb, Result, Ok, Err, Option, Some, None}
use Rattle.job_fields.specs.Bytes.{byte_at}
use Rattle.job_fields.specs.Version.{setting_bytes, record_size}
use Rattle.job_fields.specs.Settings.{kind_of, settings_at}
use Rattle.job_fields.specs.Tops.{top_at, unknown_place, FirstUnknown, AllSettingsKnown}
use Rattle.job_fields.specs.Levels.{bits_at, levels_of}
use Rattle.job_fields.specs.declared.version.Version.{Version}
use Rattle.job.specs.declared.cursor.Cursor.{Cursor}
use Rattle.job.specs.declared.record.Record.{Record}
use Rattle.job.specs.declared.next.FoundRecord.{FoundRecord}
use Rattle.job.specs.declared.next.RecordError.{RecordError}
use Rattle.job.specs.declared.next.RecordError.TheVariants.{CutRecord, UnknownSetting}

-- the record in the bytes from `at` on: the setting bytes, then the levels
unfoldable pub record_of : Version → List ℕ → ℕ → Record
record_of v bs at = record {
  kind = kind_of (byte_at bs at);
  settings = settings_at bs at (top_at v bs at);
  levels = levels_of (bits_at bs (at + setting_bytes v));
  bits = bits_at bs (at + setting_bytes v);
}

-- the cursor after the record at `at`
abbrev pub cursor_after : Version → ℕ → Cursor
cursor_after v at = record { at = at + record_size v }

-- no byte is left at the cursor
abbrev pub at_end : List ℕ → ℕ → Bool
at_end bs at = leb (length bs) at

-- answer 7, where a byte is left: the record is incomplete
abbrev pub incomplete : Version → List ℕ → ℕ → Bool
incomplete v bs at = ltb (length bs - at) (record_size v)

-- answer 8, where the record is complete: a setting byte is out of range
abbrev pub unknown : Version → List ℕ → ℕ → Bool
unknown v bs at = ltb (unknown_place v bs at) (setting_bytes v)

-- what reading a record answers: a record with the cursor after it, the end, or a refusal
abbrev pub Answer : Type 0
Answer = Result (Option FoundRecord) RecordError

-- the answer with a record
abbrev pub read : Record → Cursor → Answer
read r next = Ok (Some (record { «record» = r; next = next }))

-- what reading a record answers, at the cursor `at`
unfoldable pub record_at : Version → List ℕ → ℕ → Answer
record_at v bs at =
    cond (at_end bs at) (Ok None)
    (cond (incomplete v bs at) (Err CutRecord)
    (cond (unknown v bs at) (Err (UnknownSetting (unknown_place v bs at) (cursor_after v at)))
    (read (record_of v bs at) (cursor_after v at))))

-- when each answer is right
abbrev pub RecordMeans : Version → List ℕ → ℕ → Answer → Type 0
RecordMeans v bs at (Ok None) = length bs ≤ at
RecordMeans v bs at (Err CutRecord) = (at < length bs) × (length bs < at + record_size v)
RecordMeans v bs at (Err (UnknownSetting place next)) = (at + record_size v ≤ length bs) × FirstUnknown v bs at place × (next ≡ cursor_after v at)
RecordMeans v bs at (Ok (Some found)) =
    (at + record_size v ≤ length bs) × AllSettingsKnown v bs at × (found.«record» ≡ record_of v bs at) × (found.next ≡ cursor_after v at)

-- the number of a refusal and, for 8, the place; [] for the other answers
abbrev pub record_number : Answer → List ℕ
record_number (Ok found) = []
record_number (Err CutRecord) = 7 ∷ []
record_number (Err (UnknownSetting place next)) = 8 ∷ place ∷ []

-- the contract of reading a record: the answer, and exactly when it is 7 and when 8 with its place
pub record RecordRead (v : Version) (bs : List ℕ) (at : ℕ) (r : Answer) : Type 0 where
  pub is : r ≡ record_at v bs at
  pub refused_7 : record_number r ≡ 7 ∷ [] ↔ RecordMeans v bs at (Err CutRecord)
  pub refused_8 : (place : ℕ) → record_number r ≡ 8 ∷ place ∷ [] ↔ RecordMeans v bs at (Err (UnknownSetting place (cursor_after v at)))
