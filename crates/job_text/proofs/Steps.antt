-- The answers to a job's records, one record at a time. Assumes nothing.
use Prim.Native.Nat.{ℕ, zero, suc, ◌+◌, ◌-◌, ◌≤◌, ◌<◌, min}
use mathlib.Core.Path.{◌≡◌, refl, sym, ap, ◌∙◌}
use mathlib.Core.Bool.{Bool, true, false, cond}
use mathlib.Core.List.{List, [], ◌++◌}
use native.Mathlib.Decide.{dec_le}
use native.Mathlib.Omega.{arith}
use borrow.Author.Tests.{ltb-true, ltb-false, le-leb, lt-leb}
use lib.ListN.{length}
use Rattle.job_fields.specs.declared.version.Version.{Version}
use Rattle.std.specs.Prelude.{Err}
use Rattle.job.specs.declared.next.RecordError.TheVariants.{CutRecord, UnknownSetting}
use Rattle.job_fields.specs.Version.{record_size}
use Rattle.job_fields.specs.Tops.{unknown_place}
use Rattle.job.specs.Records.{record_of, read, cursor_after, incomplete, unknown, record_at}
use Rattle.job_record_text.specs.Replies.{record_reply, goes_on}
use Rattle.job_text.specs.Jobs.{record_texts, answers_from}

module _ (v : Version) (bs : List ℕ) where
  -- reading continues after the record, or at the end
  pub goes_on_lem : (at : ℕ) → at < length bs → goes_on (length bs) (record_at v bs at) ≡ min (at + record_size v) (length bs)
  unfolding record_at
  goes_on_lem at h = rw (lt-leb (length bs) at h) (go (incomplete v bs at) (unknown v bs at) refl)
    where
      go : (c u : Bool) → incomplete v bs at ≡ c
          → goes_on (length bs) (cond c (Err CutRecord) (cond u (Err (UnknownSetting (unknown_place v bs at) (cursor_after v at))) (read (record_of v bs at) (cursor_after v at))))
          ≡ min (at + record_size v) (length bs)
      go true u e = omega (arith, ltb-true (length bs - at) (record_size v) e)
      go false true e = omega (arith, ltb-false (length bs - at) (record_size v) e)
      go false false e = omega (arith, ltb-false (length bs - at) (record_size v) e)

  -- there is no text at the end
  pub answers_end : (k at : ℕ) → length bs ≤ at → record_texts v k bs at ≡ []
  unfolding record_texts record_at
  answers_end zero at h = refl
  answers_end (suc k) at h = rw (le-leb (length bs) at h) (answers_end k (length bs) (omega arith))

  -- more passes than records change nothing
  pub answers_same : (k m at : ℕ) → length bs ≤ at + k → length bs ≤ at + m → record_texts v k bs at ≡ record_texts v m bs at
  unfolding record_texts
  answers_same zero m at h l = rw (answers_end m at (omega arith))
  answers_same (suc k) zero at h l = rw (answers_end (suc k) at (omega arith))
  answers_same (suc k) (suc m) at h l =
      elim (dec_le (length bs) at) [
        | yes e ↦ answers_end (suc k) at e ∙ sym (answers_end (suc m) at e)
        | no e ↦
            let next = goes_on_lem at (omega arith) in
            ap (λ (l : List ℕ). record_reply (record_at v bs at) ++ l) (answers_same k m (goes_on (length bs) (record_at v bs at)) (omega arith) (omega arith))
      ]

  -- one record, then the records after it
  pub answers_step : (at : ℕ) → answers_from v bs at ≡ record_reply (record_at v bs at) ++ answers_from v bs (goes_on (length bs) (record_at v bs at))
  unfolding record_texts
  answers_step at = answers_same (length bs) (suc (length bs)) at (omega arith) (omega arith)
