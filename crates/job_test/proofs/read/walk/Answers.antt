use Prim.Native.Nat.{ℕ, ◌-◌, ◌<◌}
use native.Mathlib.Omega.{arith}
use mathlib.Core.Path.{◌≡◌, sym, ap, ◌∙◌}
use mathlib.Core.List.{List}
use lib.ListN.{length}
use Rattle.std.specs.Prelude.{Ok, Err, Some, Option}
use Rattle.job_fields.specs.declared.version.Version.{Version}
use Rattle.job.specs.declared.cursor.Cursor.{Cursor}
use Rattle.job.specs.declared.next.FoundRecord.{FoundRecord}
use Rattle.job.specs.declared.next.RecordError.{RecordError}
use Rattle.job.specs.declared.next.RecordError.TheVariants.{UnknownSetting}
use Rattle.job.specs.Records.{Answer, record_at}
use Rattle.job.proofs.Records.{record_exactly}
use Rattle.job_test.proofs.read.walk.Goals as goal

module _ (v : Version) (bs : List ℕ) (at : ℕ) {answer : Answer} (e : answer ≡ record_at v bs at) where
  -- reading moves on after a record
  past_record : (there : FoundRecord) {found : Option FoundRecord} → answer ≡ Ok found → found ≡ Some there → length bs - there.next.at < length bs - at
  past_record there f g =
      let h = (record_exactly v bs at (Ok (Some there))).0 (sym e ∙ f ∙ ap (λ found. Ok found) g) in
      omega (arith, h.0, ap (λ (x : Cursor). x.at) h.3)

  -- reading moves on after an unknown setting
  past_setting : (place : ℕ) (next : Cursor) {refusal : RecordError} → answer ≡ Err refusal → refusal ≡ UnknownSetting place next
      → length bs - next.at < length bs - at
  past_setting place next f g =
      let h = (record_exactly v bs at (Err (UnknownSetting place next))).0 (sym e ∙ f ∙ ap (λ refusal. Err refusal) g) in
      omega (arith, h.0, ap (λ (x : Cursor). x.at) h.2)

pub loop-out-smaller-in-Some-1 : goal.loop-out-smaller-in-Some-1
loop-out-smaller-in-Some-1 c =
    past_record c.args.version c.args.bytes.now c.loop-out.at c.read_record-answer.ensures.is c.in-Ok-Some.there c.in-Ok-Some.is
    (rw c.in-Ok-Some.is at c.in-Ok-Some.field-0-is)

pub loop-out-smaller : goal.loop-out-smaller
loop-out-smaller c =
    past_setting c.args.version c.args.bytes.now c.loop-out.at c.read_record-answer.ensures.is _ c.in-Err-UnknownSetting.next c.in-Err-UnknownSetting.is
    (rw c.in-Err-UnknownSetting.is at c.in-Err-UnknownSetting.field-0-is)
