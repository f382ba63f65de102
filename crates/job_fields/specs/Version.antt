-- The version of a job file: its number in the header, and the length of its records. Assumes nothing.
use Rattle.std.specs.Prelude.{ℕ, ◌+◌, ◌≡◌, ◌≢◌, Result, MatchResult}
use Rattle.job_fields.specs.declared.version.Version.{Version}
use Rattle.job_fields.specs.declared.version.Version.TheVariants.{One, Two}
use Rattle.job_fields.specs.declared.version.UnknownVersion.{UnknownVersion}

-- the number of a version in a header
abbrev pub version_number : Version → ℕ
version_number One = 1
version_number Two = 2

-- the version with a number, or a refusal of a number that no version has
abbrev pub VersionWith : ℕ → Result Version UnknownVersion → Type 0
VersionWith number r = MatchResult r (λ version. number ≡ version_number version) (λ unknown. (number ≢ 1) × (number ≢ 2))

-- how many setting bytes a record has; version 2 adds the top level
abbrev pub setting_bytes : Version → ℕ
setting_bytes One = 5
setting_bytes Two = 6

-- how many bytes a record has: the setting bytes and six levels of four bytes each
abbrev pub record_size : Version → ℕ
record_size v = setting_bytes v + 24
