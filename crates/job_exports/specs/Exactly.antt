-- When a call that reads gives which answer. Assumes nothing.
use Rattle.std.specs.Prelude.{ℕ, ◌≤◌, ◌<◌, ◌≡◌, true, false, List, [], ◌∷◌, ◌↔◌, length, Ok, Err}
use Rattle.job_fields.specs.declared.version.Version.{Version}
use Rattle.job_fields.specs.Version.{version_number}
use Rattle.job.specs.declared.header.HeaderError.TheVariants.{NotAJob, UnknownVersion}
use Rattle.job.specs.declared.next.RecordError.TheVariants.{CutRecord, UnknownSetting}
use Rattle.job.specs.Header.{header_with, HeaderMeans}
use Rattle.job.specs.Records as records
use Rattle.job.specs.Records.{Answer, record_of, cursor_after, RecordMeans}
use Rattle.job_words.specs.Inputs.{is_version, version_of_number}

-- when reading a header from the bytes l gives each number; for 0 memory holds the version's number
pub record HeaderExactly (l c' : List ℕ) (r : ℕ) : Type 0 where
  pub read : (v : Version) → ((r ≡ 0) × (c' ≡ version_number v ∷ [])) ↔ HeaderMeans l (Ok (header_with v))
  pub not_a_job : (r ≡ 5) ↔ HeaderMeans l (Err NotAJob)
  pub unknown_version : (r ≡ 6) ↔ HeaderMeans l (Err UnknownVersion)

-- in a file of a known version, x is what is read at a place where a byte is left
pub record ReadThere (n : ℕ) (l : List ℕ) (at : ℕ) (x : Answer) : Type 0 where
  pub left : at < length l
  pub known : is_version n ≡ true
  pub means : RecordMeans (version_of_number n) l at x

-- when reading a record gives each number; for 8 memory holds the place of the first unknown setting
pub record RecordExactly (n : ℕ) (l : List ℕ) (at : ℕ) (place' : List ℕ) (r : ℕ) : Type 0 where
  pub read : (r ≡ 0) ↔ ReadThere n l at (records.read (record_of (version_of_number n) l at) (cursor_after (version_of_number n) at))
  pub unknown_version : (r ≡ 6) ↔ ((at < length l) × (is_version n ≡ false))
  pub cut_record : (r ≡ 7) ↔ ReadThere n l at (Err CutRecord)
  pub unknown_setting_lem : (place : ℕ) → ((r ≡ 8) × (place' ≡ place ∷ [])) ↔ ReadThere n l at (Err (UnknownSetting place (cursor_after (version_of_number n) at)))
  -- the end, which is not a refusal
  pub end : (r ≡ 255) ↔ (length l ≤ at)
