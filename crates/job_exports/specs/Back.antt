-- What reading returns where a record was written. Assumes nothing.
use Rattle.std.specs.Prelude.{ℕ, ◌+◌, ◌^◌, ◌<◌, ◌≡◌, List, [], ◌∷◌, length, get_or}
use Rattle.job_fields.specs.Version.{record_size}
use Rattle.job_words.specs.Inputs.{version_of_number}
use Rattle.job_exports.specs.Calls.{RecordMemory}

-- six patterns of at most 32 bits
pub record SixPatterns (ps : List ℕ) : Type 0 where
  pub six : length ps ≡ 6
  pub small : (i : ℕ) → get_or ps i 0 < 256 ^ 4

-- reading at place `at` returns the record of the setting bytes bs and the patterns ps
pub record ReadBack (n : ℕ) (bs ps : List ℕ) (at : ℕ) (after : RecordMemory) (r : ℕ) : Type 0 where
  pub number : r ≡ 0
  -- the same setting bytes and the same patterns, also for NaN levels
  pub settings : after.settings ≡ bs
  pub patterns : after.patterns ≡ ps
  -- reading continues after the record
  pub next : after.next ≡ (at + record_size (version_of_number n)) ∷ []
  pub place : after.place ≡ 0 ∷ []
