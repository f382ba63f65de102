-- The bit patterns of f32 levels. Assumes nothing.
use Rattle.std.specs.Prelude.{ℕ, ◌<◌, ◌^◌, ◌≡◌, cond, Float}
use Rattle.std.specs.Float.{binary32}
use Rattle.std.specs.Float.Ieee.{is_nan, to_bits}
use Rattle.patch.specs.declared.settings.Settings.{Settings}
use Rattle.job_fields.specs.declared.setting.Kind.{Kind}
use Rattle.job_fields.specs.declared.levels.Levels.{Levels}
use Rattle.job.specs.declared.record.Record.{Record}
use Rattle.job_fields.specs.Levels.{levels_of}

-- the bit pattern of a level; 0x7fc00000 for a NaN
abbrev pub level_pattern : Float → ℕ
level_pattern x = cond (is_nan x) 0x7fc0_0000 (to_bits binary32 x)

-- the pattern of each level
abbrev pub bits_of : Levels Float → Levels ℕ
bits_of x = record {
  outer0 = level_pattern x.outer0;
  outer1 = level_pattern x.outer1;
  outer2 = level_pattern x.outer2;
  outer3 = level_pattern x.outer3;
  inner0 = level_pattern x.inner0;
  inner1 = level_pattern x.inner1;
}

-- the six patterns have at most 32 bits
pub record Patterns (b : Levels ℕ) : Type 0 where
  pub outer0 : b.outer0 < 256 ^ 4
  pub outer1 : b.outer1 < 256 ^ 4
  pub outer2 : b.outer2 < 256 ^ 4
  pub outer3 : b.outer3 < 256 ^ 4
  pub inner0 : b.inner0 < 256 ^ 4
  pub inner1 : b.inner1 < 256 ^ 4

-- the levels of a record are those of its bit patterns
abbrev pub Agrees : Record → Type 0
Agrees r = r.levels ≡ levels_of r.bits

-- r is the record made of f32 levels: its bit patterns are those of the levels, and its levels those of the patterns
pub record MadeRecord (k : Kind) (s : Settings) (x : Levels Float) (r : Record) : Type 0 where
  pub is : r ≡ record { kind = k; settings = s; levels = x; bits = bits_of x }
  pub agrees : Agrees r

-- the record made of bit patterns: its levels are those of the patterns
abbrev pub record_of_bits : Kind → Settings → Levels ℕ → Record
record_of_bits k s b = record { kind = k; settings = s; levels = levels_of b; bits = b }
