-- The sizes of a record, in each version. Assumes nothing.
use Prim.Native.Nat.{◌≤◌}
use native.Mathlib.Omega.{arith}
use Rattle.job_fields.specs.declared.version.Version.{Version}
use Rattle.job_fields.specs.declared.version.Version.TheVariants.{One, Two}
use Rattle.job_fields.specs.Version.{setting_bytes, record_size}

-- there are at least five setting bytes
pub settings_least : (v : Version) → 5 ≤ setting_bytes v
settings_least One = omega arith
settings_least Two = omega arith

-- no record is longer than 30 bytes
pub size_most : (v : Version) → record_size v ≤ 30
size_most One = omega arith
size_most Two = omega arith
