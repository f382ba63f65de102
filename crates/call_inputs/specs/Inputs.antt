-- What a caller passes: six setting bytes and six levels. Assumes nothing.
use Rattle.std.specs.Prelude.{ℕ, List, Float, get_or}
use Rattle.std.specs.Float.{nan}
use Rattle.job_fields.specs.Bytes.{byte_at}
use Rattle.job_fields.specs.Settings.{kind_of, settings_at}
use Rattle.job.specs.Patches.{patch_with}
use Rattle.job_fields.specs.declared.levels.Levels.{Levels}
use Rattle.patch.specs.declared.kinds.Patch.{Patch}
use Rattle.patch.specs.declared.settings.Settings.{Settings}

-- the level at a place
abbrev pub level_at : List Float → ℕ → Float
level_at xs k = get_or xs k nan

-- six levels in the order of a job record: four outer, two inner
abbrev pub levels_in : List Float → Levels Float
levels_in xs = record {
  outer0 = level_at xs 0;
  outer1 = level_at xs 1;
  outer2 = level_at xs 2;
  outer3 = level_at xs 3;
  inner0 = level_at xs 4;
  inner1 = level_at xs 5;
}

-- the patch of the setting bytes bs and the levels xs; byte 0 is its kind
abbrev pub patch_in : List ℕ → List Float → Patch
patch_in bs xs = patch_with (kind_of (byte_at bs 0)) (levels_in xs)

-- the top level: setting byte 5
abbrev pub top_in : List ℕ → ℕ
top_in bs = byte_at bs 5

-- the settings: the bytes after the kind
abbrev pub settings_in : List ℕ → Settings
settings_in bs = settings_at bs 0 (top_in bs)
