-- What a caller passes: a version's number, six setting bytes and six bit patterns. Assumes nothing.
use Rattle.std.specs.Prelude.{ℕ, Bool, cond, ◌||◌, List, eqb, get_or, Option, Some, None}
use Rattle.job_fields.specs.Bytes.{byte_at}
use Rattle.job_fields.specs.Settings.{kind_of}
use Rattle.job_fields.specs.declared.version.Version.{Version}
use Rattle.job_fields.specs.declared.version.Version.TheVariants.{One, Two}
use Rattle.job_fields.specs.declared.levels.Levels.{Levels}
use Rattle.job.specs.declared.record.Record.{Record}
use Rattle.job_bytes.specs.Patterns.{record_of_bits}
use Rattle.call_inputs.specs.Inputs.{settings_in}

-- whether n is the number of a version; answer 6 if not
unfoldable pub is_version : ℕ → Bool
is_version n = eqb n 1 || eqb n 2

-- the version with the number n; version 2 for every number but 1
unfoldable pub version_of_number : ℕ → Version
version_of_number n = cond (eqb n 1) One Two

-- the version with the number n, if it is known
abbrev pub known_version : ℕ → Option Version
known_version n = cond (is_version n) (Some (version_of_number n)) None

-- the bit patterns in the order of a record: four outer levels, two inner levels
abbrev pub bits_in : List ℕ → Levels ℕ
bits_in ps = record {
  outer0 = get_or ps 0 0;
  outer1 = get_or ps 1 0;
  outer2 = get_or ps 2 0;
  outer3 = get_or ps 3 0;
  inner0 = get_or ps 4 0;
  inner1 = get_or ps 5 0;
}

-- the record with the setting bytes bs and the bit patterns ps
abbrev pub record_in : List ℕ → List ℕ → Record
record_in bs ps = record_of_bits (kind_of (byte_at bs 0)) (settings_in bs) (bits_in ps)
