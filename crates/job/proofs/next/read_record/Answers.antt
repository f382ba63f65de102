use native.Mathlib.Omega.{arith}
use mathlib.Core.Path.{sym, ◌∙◌}
use Rattle.job.proofs.Records.{record_read, record_end, record_cut, record_unknown, record_whole}
use Rattle.job.proofs.next.read_record.Goals as goal

pub returns-then-bytes-at : goal.returns-then-bytes-at
returns-then-bytes-at c = record_read _ _ _ (record_end _ _ _ c.if-bytes-at.true)

pub returns-then-bytes-at-2 : goal.returns-then-bytes-at-2
returns-then-bytes-at-2 c = record_read _ _ _ (record_cut _ _ _ c.if-bytes-at.false (omega (arith, c.record_size-size.ensures, c.if-bytes-at-2.true)))

pub returns-then-place-setting_bytes : goal.returns-then-place-setting_bytes
returns-then-place-setting_bytes c =
    let place = c.unknown_place-place.ensures in
    let size = c.record_size-size.ensures in
    record_read _ _ _
    (record_unknown _ _ _ (omega (arith, size, c.if-bytes-at-2.false)) (omega (arith, place, c.setting_bytes.ensures, c.if-place-setting_bytes.true))
    ∙ rw (sym place, sym size))

pub returns : goal.returns
returns c =
    let place = c.unknown_place-place.ensures in
    let size = c.record_size-size.ensures in
    record_read _ _ _
    (record_whole _ _ _ (omega (arith, size, c.if-bytes-at-2.false)) (omega (arith, place, c.setting_bytes.ensures, c.if-place-setting_bytes.false))
    ∙ rw (sym c.read_whole-record.ensures, sym size))
