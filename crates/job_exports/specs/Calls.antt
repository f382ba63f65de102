-- What a call answers and leaves, for every input: n is the version's number, bs are the setting bytes, ps the bit patterns, l
-- and l' the list of bytes at entry and at exit, c' the count at exit. Assumes nothing.
use Rattle.std.specs.Prelude.{ℕ, ◌≡◌, cond, List, [], ◌∷◌, ltb, length, Result, Ok, Err}
use Rattle.answer_codes.specs.AnswerCode.{AnswerCode, refused, drew}
use Rattle.draw_exports.specs.Calls.{ListCalled}
use Rattle.call_answers.specs.Replies.{unknown_setting, bad_top, one_word, Says}
use Rattle.call_inputs.specs.Inputs.{top_in}
use Rattle.job.specs.declared.header.Header.{Header}
use Rattle.job.specs.declared.header.HeaderError.{HeaderError}
use Rattle.job.specs.declared.header.HeaderError.TheVariants.{NotAJob, UnknownVersion}
use Rattle.job_fields.specs.Settings.{first_unknown_setting}
use Rattle.job_fields.specs.Version.{version_number, record_size}
use Rattle.job.specs.Header.{header_of}
use Rattle.job_bytes.specs.Written.{header_bytes, takes_top, record_bytes}
use Rattle.job_writer.specs.Answers.{bytes_verdict}
use Rattle.job_words.specs.Inputs.{is_version, version_of_number, record_in}
use Rattle.job_words.specs.Found.{found_at}

-- the answer t if n is the number of a version, else 6
abbrev pub in_version : ℕ → AnswerCode → AnswerCode
in_version n t = cond (is_version n) t (refused 6)

-- the answer to writing a header into a list of `have` bytes: 6 or 10 if refused
unfoldable pub header_says : ℕ → ℕ → AnswerCode
header_says n have = in_version n (bytes_verdict 5 have)

-- the answer to writing a record; refusals in the order 6, 11, 8 with its place, 10
unfoldable pub record_says : ℕ → List ℕ → ℕ → AnswerCode
record_says n bs have =
    in_version n
    (cond (takes_top (version_of_number n) (top_in bs))
    (cond (ltb (first_unknown_setting bs 0) 5) (unknown_setting (first_unknown_setting bs 0)) (bytes_verdict (record_size (version_of_number n)) have)) bad_top)

-- the contracts of the calls that write
abbrev pub HeaderCalled : ℕ → List ℕ → List ℕ → List ℕ → ℕ → Type 0
HeaderCalled n l l' c' r = ListCalled (header_says n (length l)) (header_bytes (version_of_number n)) l l' c' r

abbrev pub RecordCalled : ℕ → List ℕ → List ℕ → List ℕ → List ℕ → List ℕ → ℕ → Type 0
RecordCalled n bs ps l l' c' r = ListCalled (record_says n bs (length l)) (record_bytes (version_of_number n) (record_in bs ps)) l l' c' r

-- the answer to reading a header: 0 with the version's number, 5 or 6
abbrev pub read_code : Result Header HeaderError → AnswerCode
read_code (Ok header) = drew (version_number header.version)
read_code (Err NotAJob) = refused 5
read_code (Err UnknownVersion) = refused 6

-- the contract of reading a header from the bytes l
abbrev pub HeaderAsked : List ℕ → List ℕ → ℕ → Type 0
HeaderAsked l c' r = Says one_word (read_code (header_of l)) c' r

-- the caller's memory after a record is read: setting bytes and bit patterns, where reading continues, and the place of an unknown setting
pub record RecordMemory : Type 0 where
  pub settings : List ℕ
  pub patterns : List ℕ
  pub next : List ℕ
  pub place : List ℕ

-- the contract of reading a record at a place of the bytes l
pub record RecordAsked (n : ℕ) (l : List ℕ) (at : ℕ) (after : RecordMemory) (r : ℕ) : Type 0 where
  pub number : r ≡ (found_at n l at).number
  pub settings : after.settings ≡ (found_at n l at).settings
  pub patterns : after.patterns ≡ (found_at n l at).patterns
  pub next : after.next ≡ (found_at n l at).next ∷ []
  pub place : after.place ≡ (found_at n l at).place ∷ []
