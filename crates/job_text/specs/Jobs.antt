-- The text for a whole job. Assumes nothing.
use Rattle.std.specs.Prelude.{ℕ, zero, suc, List, [], ◌++◌, length, Result, Ok, Err, Option, Some, None}
use Rattle.job_fields.specs.declared.version.Version.{Version}
use Rattle.job.specs.declared.header.Header.{Header}
use Rattle.job.specs.declared.header.HeaderError.{HeaderError}
use Rattle.job.specs.declared.header.HeaderError.TheVariants.{NotAJob, UnknownVersion}
use Rattle.job_fields.specs.Version.{version_number}
use Rattle.job.specs.Header.{header_of}
use Rattle.job.specs.Records.{record_at}
use Rattle.decimal_text.specs.Heads.{title_line, refused_line}
use Rattle.job_record_text.specs.Replies.{record_reply, goes_on}

-- the text for the first k records from place `at` on
unfoldable pub record_texts : Version → ℕ → List ℕ → ℕ → List ℕ
record_texts v zero bs at = []
record_texts v (suc k) bs at = record_reply (record_at v bs at) ++ record_texts v k bs (goes_on (length bs) (record_at v bs at))

-- the text for all records from place `at` on; a file has no more records than bytes
abbrev pub answers_from : Version → List ℕ → ℕ → List ℕ
answers_from v bs at = record_texts v (length bs) bs at

-- the text for a header
abbrev pub start_text : Result Header HeaderError → List ℕ
start_text (Ok header) = title_line (version_number header.version)
start_text (Err NotAJob) = refused_line 5
start_text (Err UnknownVersion) = refused_line 6

-- the text for the records after a header
abbrev pub rest_text : List ℕ → Result Header HeaderError → List ℕ
rest_text bs (Ok header) = answers_from header.version bs header.next.at
rest_text bs (Err e) = []

-- the text for the bytes of a job
unfoldable pub job_text : List ℕ → List ℕ
job_text bs = start_text (header_of bs) ++ rest_text bs (header_of bs)

-- what follows a header: records of its version, or nothing if it is refused
abbrev pub rest_of : Result Header HeaderError → Option Version
rest_of (Ok header) = Some header.version
rest_of (Err e) = None
