-- The recording of a list of calls: each record as `job_writer` writes it, with the answer that drawing gave. Assumes nothing.
use Rattle.std.specs.Prelude.{ℕ, List, [], ◌∷◌, ◌++◌, length, get_or, Result}
use Rattle.tessellate.specs.declared.refusal.DrawRefusal.{DrawRefusal}
use Rattle.tessellate.specs.Answers.{points_code, indices_code}
use Rattle.tessellate.specs.Draws.{DrewPoints, DrewIndices}
use Rattle.patch_text.specs.Room.{FullSize}
use Rattle.job_fields.specs.declared.version.Version.TheVariants.{One}
use Rattle.job.specs.declared.record.Record.{Record}
use Rattle.job_fields.specs.Bytes.{low_bytes}
use Rattle.job.specs.Patches.{patch_of}
use Rattle.job_bytes.specs.Written.{record_bytes}
use Rattle.job_bytes.specs.Patterns.{Agrees}
use Rattle.job_writer.specs.Whole.{Writable}
use Rattle.replay_entry.specs.declared.outcome.Outcome.{Outcome}
use Rattle.replay.specs.Replays.{recording_mark}

-- a call: a record, and the answers of the two drawing operations to it
pub record RecordedCall : Type 0 where
  pub entry : Record
  pub points : Result ℕ DrawRefusal
  pub indices : Result ℕ DrawRefusal

-- the call was made: the record can be written, and both operations were called for its patch with full-size lists
pub record WasMade (c : RecordedCall) : Type 0 where
  pub writable : Writable One c.entry
  pub levels : Agrees c.entry
  pub v : List ℕ
  pub v' : List ℕ
  pub i : List ℕ
  pub i' : List ℕ
  pub full : FullSize (length v) (length i)
  pub drew_points : DrewPoints c.entry.settings (patch_of c.entry) v v' c.points
  pub drew_indices : DrewIndices c.entry.settings (patch_of c.entry) i i' c.indices

-- every call of the list was made
pub data AllMade : List RecordedCall → Type 0 where
  none : AllMade []
  more : {c : RecordedCall} {cs : List RecordedCall} → WasMade c → AllMade cs → AllMade (c ∷ cs)

-- the number of the answer and both counts, which are 0 unless drawn
abbrev pub answered_outcome : RecordedCall → Outcome
answered_outcome c = record {
  answer = (points_code c.points).number;
  points = get_or (points_code c.points).values 0 0;
  indices = get_or (indices_code c.indices).values 0 0;
}

-- an answer in an entry: one byte for its number, two for each count, low byte first
abbrev pub outcome_bytes : Outcome → List ℕ
outcome_bytes o = (o.answer ∷ []) ++ (low_bytes 2 o.points ++ low_bytes 2 o.indices)

-- an entry: the record, then the answer
unfoldable pub entry_bytes : RecordedCall → List ℕ
entry_bytes c = record_bytes One c.entry ++ outcome_bytes (answered_outcome c)

-- the bytes of entries, joined
unfoldable pub entries_bytes : List RecordedCall → List ℕ
entries_bytes [] = []
entries_bytes (c ∷ cs) = entry_bytes c ++ entries_bytes cs

-- the header: the mark, and version 1
abbrev pub recording_header : List ℕ
recording_header = recording_mark ++ low_bytes 2 1

-- the recording of a list of calls
abbrev pub recording_of : List RecordedCall → List ℕ
recording_of cs = recording_header ++ entries_bytes cs
