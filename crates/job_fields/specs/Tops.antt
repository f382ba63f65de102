-- The top level of a record, and the first setting byte that is out of range, the top level included. Assumes nothing.
use Rattle.std.specs.Prelude.{ℕ, ◌+◌, ◌≡◌, true, false, cond, List, ◌⊎◌, ltb}
use Rattle.level.specs.Top.{is_top}
use Rattle.job_fields.specs.Bytes.{byte_at}
use Rattle.job_fields.specs.Settings.{choices, first_unknown_setting, FirstOver, AllBelow}
use Rattle.job_fields.specs.declared.version.Version.{Version}
use Rattle.job_fields.specs.declared.version.Version.TheVariants.{One, Two}

-- the top level: 64 in version 1, setting byte 5 in version 2
abbrev pub top_at : Version → List ℕ → ℕ → ℕ
top_at One bs at = 64
top_at Two bs at = byte_at bs (at + 5)

-- the place of the first setting byte that is out of range; the number of setting bytes if all are in range
unfoldable pub unknown_place : Version → List ℕ → ℕ → ℕ
unknown_place One bs at = first_unknown_setting bs at
unknown_place Two bs at = cond (ltb (first_unknown_setting bs at) 5) (first_unknown_setting bs at) (cond (is_top (top_at Two bs at)) 6 5)

-- `place` is that of the first setting byte out of range: one of the five, or, if these are in range, the top level
abbrev pub FirstUnknown : Version → List ℕ → ℕ → ℕ → Type 0
FirstUnknown One bs at place = FirstOver choices bs at place
FirstUnknown Two bs at place = FirstOver choices bs at place ⊎ (AllBelow choices bs at × (is_top (top_at Two bs at) ≡ false) × (place ≡ 5))

-- every setting byte is in range
abbrev pub AllSettingsKnown : Version → List ℕ → ℕ → Type 0
AllSettingsKnown One bs at = AllBelow choices bs at
AllSettingsKnown Two bs at = AllBelow choices bs at × (is_top (top_at Two bs at) ≡ true)
