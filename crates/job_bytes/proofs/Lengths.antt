-- The length of each part of a file. Assumes nothing.
use Prim.Native.Nat.{ℕ, ◌+◌, ◌≤◌}
use native.Mathlib.Omega.{arith}
use mathlib.Core.Path.{◌≡◌, refl}
use mathlib.Core.Bool.{true}
use lib.ListN.{length}
use Rattle.level.specs.Top.{is_top}
use Rattle.level.proofs.Top.{top_of}
use Rattle.job_fields.specs.declared.version.Version.{Version}
use Rattle.job_fields.specs.declared.version.Version.TheVariants.{One, Two}
use Rattle.job.specs.declared.record.Record.{Record}
use Rattle.job_fields.specs.Version.{version_number, setting_bytes, record_size}
use Rattle.job_fields.specs.Bytes.{low_bytes}
use Rattle.job_bytes.specs.Written.{header_bytes, top_bytes, level_bytes, record_bytes}

-- a version's number is at most 2
pub number_small : (v : Version) → version_number v ≤ 2
number_small One = omega arith
number_small Two = omega arith

-- a top level of version 2 fits into a byte
pub top_small : (t : ℕ) → is_top t ≡ true → t ≤ 64
top_small t h = (top_of t (rw h tt)).most

-- the number of bytes of each part
pub header_length : (v : Version) → length (header_bytes v) ≡ 5
unfolding header_bytes low_bytes
header_length v = refl

pub top_length : (v : Version) (t : ℕ) → 5 + length (top_bytes v t) ≡ setting_bytes v
top_length One t = refl
top_length Two t = refl

pub record_length : (v : Version) (r : Record) → length (record_bytes v r) ≡ record_size v
unfolding record_bytes level_bytes low_bytes
record_length One r = refl
record_length Two r = refl

pub size_small : (v : Version) → record_size v ≤ 30
size_small One = omega arith
size_small Two = omega arith
