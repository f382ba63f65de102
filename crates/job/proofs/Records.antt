-- When reading a record gives each answer. Assumes nothing.
use Prim.Native.Nat.{ℕ, ◌+◌, ◌-◌, ◌≤◌, ◌<◌}
use native.Mathlib.Decide.{dec_le}
use native.Mathlib.Omega.{arith}
use mathlib.Core.Path.{◌≡◌, refl, sym, ap, ◌∙◌}
use mathlib.Core.Bool.{true, false}
use mathlib.Core.List.{List, [], ◌∷◌}
use mathlib.Core.Logic.{◌↔◌, inl, inr}
use borrow.Author.Tests.{lt-ltb, le-ltb, le-leb, lt-leb}
use lib.ListN.{length}
use Rattle.level.specs.Top.{is_top}
use Rattle.job_fields.specs.declared.version.Version.{Version}
use Rattle.job.specs.declared.cursor.Cursor.{Cursor}
use Rattle.job.specs.declared.record.Record.{Record}
use Rattle.job.specs.declared.next.RecordError.TheVariants.{CutRecord, UnknownSetting}
use Rattle.std.specs.Prelude.{Ok, Err, Some, None}
use Rattle.job_fields.specs.Levels.{levels_of}
use Rattle.job_fields.specs.Version.{setting_bytes, record_size}
use Rattle.job_fields.specs.Tops.{unknown_place}
use Rattle.job.specs.Records.{record_of, Answer, read, record_at, record_number, RecordRead, RecordMeans, cursor_after, at_end, incomplete}
use Rattle.job.proofs.Numbers.{apart}
use Rattle.job_fields.proofs.Tops.{place_means, first_place, all_place, all_top}

module _ (v : Version) (bs : List ℕ) (at : ℕ) where
  pub record_end : length bs ≤ at → record_at v bs at ≡ Ok None
  unfolding record_at
  record_end h = rw (le-leb _ _ h)

  pub record_cut : at < length bs → length bs < at + record_size v → record_at v bs at ≡ Err CutRecord
  unfolding record_at
  record_cut h k = rw (lt-leb _ _ h, lt-ltb (length bs - at) (record_size v) (omega arith))

  not_cut : at + record_size v ≤ length bs → (at_end bs at ≡ false) × (incomplete v bs at ≡ false)
  not_cut h = (lt-leb (length bs) at (omega arith), le-ltb (length bs - at) (record_size v) (omega arith))

  pub record_unknown : at + record_size v ≤ length bs → unknown_place v bs at < setting_bytes v
      → record_at v bs at ≡ Err (UnknownSetting (unknown_place v bs at) (cursor_after v at))
  unfolding record_at
  record_unknown h k = rw ((not_cut h).0, (not_cut h).1, lt-ltb _ _ k)

  pub record_whole : at + record_size v ≤ length bs → setting_bytes v ≤ unknown_place v bs at → record_at v bs at ≡ read (record_of v bs at) (cursor_after v at)
  unfolding record_at
  record_whole h k = rw ((not_cut h).0, (not_cut h).1, le-ltb _ _ k)

  record_means : RecordMeans v bs at (record_at v bs at)
  record_means = elim (dec_le (length bs) at) [
    | yes h ↦ rw (record_end h) h
    | no h ↦ elim (dec_le (at + record_size v) (length bs)) [
      | no k ↦ let l : at < length bs = omega arith in let m : length bs < at + record_size v = omega arith in rw (record_cut l m) (l, m)
      | yes k ↦ elim (place_means bs at v) [
        | inl (l, f) ↦ rw (record_unknown k l) (k, f, refl)
        | inr (l, a) ↦ rw (record_whole k l) (k, a, refl, refl)
      ]
    ]
  ]

  means_record : (r : Answer) → RecordMeans v bs at r → record_at v bs at ≡ r
  means_record (Ok None) h = record_end h
  means_record (Err CutRecord) (h, k) = record_cut h k
  means_record (Err (UnknownSetting place next)) (h, f, e) =
      let p = first_place bs at v place f in
      record_unknown h (omega arith) ∙ rw (p.0, e)
  means_record (Ok (Some found)) (h, a, p, e) = record_whole h (all_place bs at v a) ∙ rw (p, e)

  -- each answer is given exactly if it is right
  pub record_exactly : (r : Answer) → record_at v bs at ≡ r ↔ RecordMeans v bs at r
  record_exactly r = (λ e. rw e at record_means, means_record r)

  is_7 : (r : Answer) → RecordMeans v bs at r → record_number r ≡ 7 ∷ [] → RecordMeans v bs at (Err CutRecord)
  is_7 (Ok None) m e = absurd (apart e refl)
  is_7 (Err CutRecord) m e = m
  is_7 (Err (UnknownSetting place next)) m e = absurd (apart e refl)
  is_7 (Ok (Some found)) m e = absurd (apart e refl)

  is_8 : (place : ℕ) (r : Answer) → RecordMeans v bs at r → record_number r ≡ 8 ∷ place ∷ [] → RecordMeans v bs at (Err (UnknownSetting place (cursor_after v at)))
  is_8 place (Ok None) m e = absurd (apart e refl)
  is_8 place (Err CutRecord) m e = absurd (apart e refl)
  is_8 place (Err (UnknownSetting found next)) (h, f, p) e = (h, let q : found ≡ place = cc in rw q at f, refl)
  is_8 place (Ok (Some found)) m e = absurd (apart e refl)

  -- an answer that equals `record_at` satisfies the whole contract
  pub record_read : {r : Answer} → record_at v bs at ≡ r → RecordRead v bs at r
  record_read {r} e = record {
    is = sym e;
    refused_7 = (is_7 r (rw e at record_means), λ m. ap record_number (sym e ∙ means_record (Err CutRecord) m));
    refused_8 = λ place. (is_8 place r (rw e at record_means), λ m. ap record_number (sym e ∙ means_record (Err (UnknownSetting place (cursor_after v at))) m));
  }

  -- the levels of a record are those of its bit patterns
  pub levels_are : (r : Record) (next : Cursor) → record_at v bs at ≡ read r next → r.levels ≡ levels_of r.bits
  unfolding record_of
  levels_are r next e = let p = ((record_exactly (read r next)).0 e).2 in rw p

  -- the top level of a record is good, as 64 is
  pub top_allowed : is_top 64 ≡ true → (r : Record) (next : Cursor) → record_at v bs at ≡ read r next → is_top r.settings.top ≡ true
  unfolding record_of
  top_allowed h r next e = let m = (record_exactly (read r next)).0 e in rw m.2 (all_top bs at h v m.1)
