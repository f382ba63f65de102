-- A written record reads back, and a record that was read is written as the same bytes. Assumes nothing.
use Prim.Native.Nat.{ℕ, ◌+◌, ◌≤◌}
use native.Mathlib.Omega.{arith}
use mathlib.Core.Path.{◌≡◌, refl, ap}
use mathlib.Core.List.{List, ◌++◌}
use lib.ListN.{length, take, drop}
use Rattle.job_fields.specs.declared.version.Version.{Version}
use Rattle.job.specs.declared.cursor.Cursor.{Cursor}
use Rattle.job.specs.declared.record.Record.{Record}
use Rattle.job_fields.specs.Version.{setting_bytes, record_size}
use Rattle.job_fields.specs.Levels.{levels_of}
use Rattle.job_fields.specs.Tops.{top_at, AllSettingsKnown}
use Rattle.job.specs.Records.{record_of, read, record_at, cursor_after}
use Rattle.job.proofs.Records.{record_exactly, levels_are}
use Rattle.job_bytes.specs.Written.{five_bytes, top_bytes, level_bytes, record_bytes}
use Rattle.job_bytes.specs.Patterns.{Agrees}
use Rattle.job_writer.specs.Whole.{Bytes, Writable, reread}
use Rattle.job_bytes.proofs.Lengths.{top_length, record_length}
use Rattle.job_writer.proofs.Has.{Has, has_front, has_back, has_both, has_within}
use Rattle.job_writer.proofs.SettingBytes.{five_known, five_kind, five_settings, five_again}
use Rattle.job_writer.proofs.Tops.{top_back, top_known, top_taken, top_again}
use Rattle.job_writer.proofs.LevelBytes.{bits_back, bits_again, bits_small}

module _ (v : Version) (bs : List ℕ) (at : ℕ) where
  -- where the levels are
  place : (t : ℕ) → at + 5 + length (top_bytes v t) ≡ at + setting_bytes v
  place t = omega (arith, top_length v t)

  has_record : (r : Record) → Writable v r → Has bs at (record_bytes v r) → record_at v bs at ≡ read (reread r) (cursor_after v at)
  unfolding record_bytes record_of
  has_record r w h =
      let five = five_bytes r.kind r.settings in
      let top = top_bytes v r.settings.top in
      let n = record_length v r in
      let first = has_front five (top ++ level_bytes r.bits) h in
      let rest = has_back five (top ++ level_bytes r.bits) h in
      let t = top_back bs at v r.settings.top w.top (has_front top (level_bytes r.bits) rest) in
      let levels = rw (place r.settings.top) at (has_back top (level_bytes r.bits) rest) in
      let bits = bits_back r.bits w.patterns levels in
      (record_exactly v bs at (read (reread r) (cursor_after v at))).1 (
        omega (arith, n, has_within (omega (arith, n)) h),
        top_known bs at v r.settings.top w.top t (five_known r.kind r.settings first),
        rw (ap levels_of bits, bits, t, five_kind r.kind r.settings first, five_settings r.kind r.settings first),
        refl,
      )

  -- the bytes of a record are read as the same kind, settings and bit patterns
  pub record_back : (r : Record) → Writable v r → take (record_size v) (drop at bs) ≡ record_bytes v r → record_at v bs at ≡ read (reread r) (cursor_after v at)
  record_back r w e = has_record r w (record { is = rw (record_length v r) e })

  -- if its levels are those of its bit patterns, as the same record
  pub record_same : (r : Record) → Writable v r → Agrees r → take (record_size v) (drop at bs) ≡ record_bytes v r → record_at v bs at ≡ read r (cursor_after v at)
  record_same r w a e = rw a (record_back r w e)

  has_read : at + record_size v ≤ length bs → AllSettingsKnown v bs at → Bytes bs → Has bs at (record_bytes v (record_of v bs at))
  unfolding record_bytes record_of
  has_read h a b =
      let t = top_at v bs at in
      let five = five_again bs at t (top_taken bs at v a).0 (omega (arith, top_length v t)) in
      let levels = bits_again bs (at + setting_bytes v) (omega arith) b in
      has_both _ _ five (has_both _ _ (top_again bs at v h) (rw (place t) levels))

  can_write : AllSettingsKnown v bs at → Bytes bs → Writable v (record_of v bs at)
  unfolding record_of
  can_write a b = record { top = (top_taken bs at v a).1; patterns = bits_small bs (at + setting_bytes v) b }

  -- a record that was read can be written, and its bytes are those it was read from
  pub record_again : (r : Record) (next : Cursor) → Bytes bs → record_at v bs at ≡ read r next
      → Writable v r × Agrees r × (take (record_size v) (drop at bs) ≡ record_bytes v r)
  record_again r next b e =
      let m = (record_exactly v bs at (read r next)).0 e in
      let h : Has bs at (record_bytes v r) = rw m.2 (has_read m.0 m.1 b) in
      (rw m.2 (can_write m.1 b), levels_are v bs at r next e, rw (record_length v r) at h.is)
