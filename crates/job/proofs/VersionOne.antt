-- Version 1 is read as before version 2 existed. Assumes nothing.
use Prim.Native.Nat.{ℕ, ◌+◌, ◌-◌, ◌≤◌}
use mathlib.Core.Path.{◌≡◌, refl}
use mathlib.Core.Bool.{cond}
use mathlib.Core.List.{List}
use mathlib.Core.Logic.{◌↔◌}
use lib.Dec.{leb, ltb}
use lib.ListN.{length, take}
use Rattle.job_fields.specs.declared.version.Version.TheVariants.{One}
use Rattle.job.specs.declared.cursor.Cursor.{Cursor}
use Rattle.job.specs.declared.next.RecordError.TheVariants.{CutRecord, UnknownSetting}
use Rattle.std.specs.Prelude.{Ok, Err, None}
use Rattle.job_fields.specs.Bytes.{byte_at, word}
use Rattle.job.specs.Header.{job_mark, header_of}
use Rattle.job_fields.specs.Settings.{first_unknown_setting, kind_of, settings_at}
use Rattle.job_fields.specs.Tops.{unknown_place}
use Rattle.job_fields.specs.Levels.{bits_at, levels_of}
use Rattle.job.specs.Records.{record_of, read, record_at}
use Rattle.job.proofs.Headers.{header_exactly}

-- headers of version 1
pub header_one : (bs : List ℕ) (next : Cursor)
    → header_of bs ≡ Ok (record { version = One; next = next }) ↔ (5 ≤ length bs) × (take 3 bs ≡ job_mark) × (word 2 bs 3 ≡ 1) × (next ≡ record { at = 5 })
header_one bs next = header_exactly bs (Ok (record { version = One; next = next }))

-- records of version 1: 29 bytes, five limits, and the top level 64
pub version_one : (bs : List ℕ) (at : ℕ)
    → record_at One bs at
    ≡ cond (leb (length bs) at) (Ok None)
    (cond (ltb (length bs - at) 29) (Err CutRecord)
    (cond (ltb (first_unknown_setting bs at) 5) (Err (UnknownSetting (first_unknown_setting bs at) (record { at = at + 29 })))
    (read
    (record { kind = kind_of (byte_at bs at); settings = settings_at bs at 64; levels = levels_of (bits_at bs (at + 5)); bits = bits_at bs (at + 5) })
    (record { at = at + 29 }))))
unfolding unknown_place record_of record_at
version_one bs at = refl
