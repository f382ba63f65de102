-- What reading a record leaves in the caller's memory. Assumes nothing.
use Rattle.std.specs.Prelude.{ℕ, cond, List, [], ◌∷◌, length, Ok, Err, Some, None}
use Rattle.job_fields.specs.declared.levels.Levels.{Levels}
use Rattle.job.specs.declared.record.Record.{Record}
use Rattle.job.specs.declared.next.RecordError.TheVariants.{CutRecord, UnknownSetting}
use Rattle.job.specs.Records.{Answer, record_at, at_end}
use Rattle.job_fields.specs.Settings.{kind_byte, spacing_byte, order_byte, origin_byte, switch_byte}
use Rattle.job_words.specs.declared.found.Found.{Found}
use Rattle.job_words.specs.Inputs.{is_version, version_of_number}

-- the number of the end; it is not a refusal, and no other answer has it
abbrev pub end_number : ℕ
end_number = 255

-- the six setting bytes of a record, top level last
abbrev pub settings_out : Record → List ℕ
settings_out r =
    kind_byte r.kind ∷ spacing_byte r.settings.spacing ∷ order_byte r.settings.order ∷ origin_byte r.settings.origin
    ∷ switch_byte r.settings.point_mode ∷ r.settings.top ∷ []

-- the six bit patterns of a record: four outer levels, two inner levels
abbrev pub patterns_out : Levels ℕ → List ℕ
patterns_out b = b.outer0 ∷ b.outer1 ∷ b.outer2 ∷ b.outer3 ∷ b.inner0 ∷ b.inner1 ∷ []

-- six zeros, left if no record was read: as settings they have a bad top level, as levels they discard
abbrev pub zeros : List ℕ
zeros = 0 ∷ 0 ∷ 0 ∷ 0 ∷ 0 ∷ 0 ∷ []

-- the result if no record was read
abbrev pub nothing : ℕ → ℕ → ℕ → Found
nothing number place next = record { number = number; place = place; next = next; settings = zeros; patterns = zeros }

-- the result for what is at a cursor, in a file of `end` bytes: reading continues after a whole record, and at the end after a cut one
abbrev pub found_of : ℕ → Answer → Found
found_of end (Ok (Some there)) =
    record { number = 0; place = 0; next = there.next.at; settings = settings_out there.«record»; patterns = patterns_out there.«record».bits }
found_of end (Ok None) = nothing end_number 0 end
found_of end (Err CutRecord) = nothing 7 0 end
found_of end (Err (UnknownSetting place next)) = nothing 8 place next.at

-- the result of reading at a place, where the version has the number n: the end comes first, then an unknown version
unfoldable pub found_at : ℕ → List ℕ → ℕ → Found
found_at n bs at =
    cond (at_end bs at) (nothing end_number 0 (length bs))
    (cond (is_version n) (found_of (length bs) (record_at (version_of_number n) bs at)) (nothing 6 0 (length bs)))

-- the number that is to fit into fewer bits: the top level of a record, or the place of a setting
abbrev pub number_in : Answer → ℕ
number_in (Ok (Some there)) = there.«record».settings.top
number_in (Ok None) = 0
number_in (Err CutRecord) = 0
number_in (Err (UnknownSetting place next)) = place
