-- The header of a job file: what it says, and the numbers of its refusals. Assumes nothing.
use Rattle.std.specs.Prelude.{ℕ, ◌≤◌, ◌<◌, ◌≡◌, Bool, true, false, cond, not, ◌&&◌, ◌||◌, List, [], ◌∷◌, ◌⊎◌, ◌↔◌, length, take, ltb, eqb, Result, Ok, Err}
use Rattle.job_fields.specs.Bytes.{word}
use Rattle.job_fields.specs.Version.{version_number}
use Rattle.job_fields.specs.declared.version.Version.{Version}
use Rattle.job_fields.specs.declared.version.Version.TheVariants.{One, Two}
use Rattle.job.specs.declared.cursor.Cursor.{Cursor}
use Rattle.job.specs.declared.header.Header.{Header}
use Rattle.job.specs.declared.header.HeaderError.{HeaderError}
use Rattle.job.specs.declared.header.HeaderError.TheVariants.{NotAJob, UnknownVersion}

-- the mark: the bytes of "TSJ"
abbrev pub job_mark : List ℕ
job_mark = 0x54 ∷ 0x53 ∷ 0x4A ∷ []

-- the list bs begins with the list ms
unfoldable pub starts_with : List ℕ → List ℕ → Bool
starts_with [] bs = true
starts_with (m ∷ ms) [] = false
starts_with (m ∷ ms) (b ∷ bs) = eqb b m && starts_with ms bs

-- the file has fewer than 5 bytes, or does not begin with the mark ms
abbrev pub lacks_mark : List ℕ → List ℕ → Bool
lacks_mark ms bs = ltb (length bs) 5 || not (starts_with ms bs)

-- the number of the version: the 16 bits after the mark
abbrev pub version_number_in : List ℕ → ℕ
version_number_in bs = word 2 bs 3

-- answer 5: not a job
abbrev pub not_aJob : List ℕ → Bool
not_aJob bs = lacks_mark job_mark bs

-- the first record is at byte 5
abbrev pub first_record : Cursor
first_record = record { at = 5 }

-- the header of a version
abbrev pub header_with : Version → Header
header_with v = record { version = v; next = first_record }

-- the answer for a version's number: 6 unless it is 1 or 2
abbrev pub by_version : ℕ → Result Header HeaderError
by_version n = cond (eqb n 1) (Ok (header_with One)) (cond (eqb n 2) (Ok (header_with Two)) (Err UnknownVersion))

-- what reading a header answers
unfoldable pub header_of : List ℕ → Result Header HeaderError
header_of bs = cond (not_aJob bs) (Err NotAJob) (by_version (version_number_in bs))

-- when each answer is right
abbrev pub HeaderMeans : List ℕ → Result Header HeaderError → Type 0
HeaderMeans bs (Err NotAJob) = (length bs < 5) ⊎ (take 3 bs ≡ job_mark → ⊥)
HeaderMeans bs (Err UnknownVersion) = (5 ≤ length bs) × (take 3 bs ≡ job_mark) × (version_number_in bs ≡ 1 → ⊥) × (version_number_in bs ≡ 2 → ⊥)
HeaderMeans bs (Ok header) = (5 ≤ length bs) × (take 3 bs ≡ job_mark) × (version_number_in bs ≡ version_number header.version) × (header.next ≡ first_record)

-- the number of a refusal as a list of one element; [] if the header was read
abbrev pub header_number : Result Header HeaderError → List ℕ
header_number (Ok header) = []
header_number (Err NotAJob) = 5 ∷ []
header_number (Err UnknownVersion) = 6 ∷ []

-- the contract of reading a header: the answer, and exactly when it is 5 and when 6
pub record HeaderRead (bs : List ℕ) (r : Result Header HeaderError) : Type 0 where
  pub is : r ≡ header_of bs
  pub refused_5 : header_number r ≡ 5 ∷ [] ↔ HeaderMeans bs (Err NotAJob)
  pub refused_6 : header_number r ≡ 6 ∷ [] ↔ HeaderMeans bs (Err UnknownVersion)
