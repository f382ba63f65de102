-- A record that one call read and another writes again gives the same bytes. Assumes nothing.
use Prim.Native.Nat.{ℕ, ◌≤◌, ◌<◌}
use native.Mathlib.Decide.{dec_le}
use native.Mathlib.Omega.{arith}
use mathlib.Core.Path.{◌≡◌, refl, sym, ap, ◌∙◌}
use mathlib.Core.Bool.{Bool, true, false}
use mathlib.Core.List.{List}
use borrow.Author.Tests.{le-ltb}
use lib.ListN.{length, take, drop}
use Rattle.buffer.proofs.Laws.{over_front}
use Rattle.answer_codes.specs.AnswerCode.{AnswerCode}
use Rattle.patch.specs.declared.settings.Settings.{Settings}
use Rattle.job.specs.declared.cursor.Cursor.{Cursor}
use Rattle.job.specs.declared.record.Record.{Record}
use Rattle.std.specs.Prelude.{Ok, Err, Some, None, Float}
use Rattle.job.specs.declared.next.RecordError.TheVariants.{CutRecord, UnknownSetting}
use Rattle.job_fields.specs.declared.setting.Kind.{Kind}
use Rattle.job_fields.specs.declared.levels.Levels.{Levels}
use Rattle.job_fields.specs.Settings.{choices, settings_at}
use Rattle.job_fields.specs.Version.{record_size}
use Rattle.job.specs.Records.{Answer, read, record_at}
use Rattle.job_fields.proofs.Limits.{first_none}
use Rattle.job_bytes.specs.Written.{five_bytes, takes_top, record_bytes}
use Rattle.job_bytes.specs.Patterns.{Agrees, record_of_bits}
use Rattle.job_writer.specs.Whole.{Bytes}
use Rattle.job_writer.specs.Answers.{wrote, record_verdict}
use Rattle.job_writer.proofs.Has.{Has}
use Rattle.job_bytes.proofs.Lengths.{record_length}
use Rattle.job_writer.proofs.SettingBytes.{five_known, five_kind, five_settings}
use Rattle.job_writer.proofs.RoundTrip.{record_again}
use Rattle.job_words.specs.declared.found.Found.{Found}
use Rattle.job_words.specs.Inputs.{is_version, version_of_number, record_in}
use Rattle.job_words.specs.Found.{settings_out, patterns_out, found_of, found_at}
use Rattle.job_exports.specs.Calls.{RecordMemory, RecordAsked, RecordCalled}
use Rattle.job_exports.proofs.Calls.{record_known}
use Rattle.job_words.proofs.Places.{found_end, found_other, found_here}

-- the answer was 0: a record is there, and its settings and patterns were returned
pub record WasRead (n : ℕ) (bs : List ℕ) (at : ℕ) : Type 0 where
  pub x : Record
  pub next : Cursor
  pub known : is_version n ≡ true
  pub is : record_at (version_of_number n) bs at ≡ read x next
  pub settings : (found_at n bs at).settings ≡ settings_out x
  pub patterns : (found_at n bs at).patterns ≡ patterns_out x.bits

module _ (n : ℕ) (bs : List ℕ) (at : ℕ) where
  by_record : (r : Answer) → is_version n ≡ true → record_at (version_of_number n) bs at ≡ r → found_at n bs at ≡ found_of (length bs) r → (found_at n bs at).number ≡ 0 → WasRead n bs at
  by_record (Ok (Some there)) k e f z = record {
    x = there.«record»;
    next = there.next;
    known = k;
    is = e;
    settings = ap (λ (y : Found). y.settings) f;
    patterns = ap (λ (y : Found). y.patterns) f;
  }
  by_record (Ok None) k e f z = absurd (omega (arith, ap (λ (y : Found). y.number) f))
  by_record (Err CutRecord) k e f z = absurd (omega (arith, ap (λ (y : Found). y.number) f))
  by_record (Err (UnknownSetting place next)) k e f z = absurd (omega (arith, ap (λ (y : Found). y.number) f))

  by_version_lem : (b : Bool) → is_version n ≡ b → at < length bs → (found_at n bs at).number ≡ 0 → WasRead n bs at
  by_version_lem false e h z = absurd (omega (arith, ap (λ (y : Found). y.number) (found_other n bs at h e)))
  by_version_lem true e h z = by_record (record_at (version_of_number n) bs at) e refl (found_here n bs at h e) z

  pub was_read : (found_at n bs at).number ≡ 0 → WasRead n bs at
  was_read z = elim (dec_le (length bs) at) [
    | yes h ↦ absurd (omega (arith, ap (λ (y : Found). y.number) (found_end n bs at h)))
    | no h ↦ by_version_lem (is_version n) refl (omega arith) z
  ]

-- the settings and the patterns of a record determine it
module _ (x : Record) where
  five : Has (settings_out x) 0 (five_bytes x.kind x.settings)
  five = record { is = refl }

  same_record : Agrees x → record_in (settings_out x) (patterns_out x.bits) ≡ x
  same_record a =
      let kind = five_kind x.kind x.settings five in
      let settings = five_settings x.kind x.settings five in
      ap (λ (k : Kind). record_of_bits k (settings_at (settings_out x) 0 x.settings.top) x.bits) kind
      ∙ ap (λ (s : Settings). record_of_bits x.kind s x.bits) settings
      ∙ ap (λ (y : Levels Float). record { kind = x.kind; settings = x.settings; levels = y; bits = x.bits }) (sym a)

  copied : (n : ℕ) {k k' c' : List ℕ} {r : ℕ} → record_size (version_of_number n) ≤ length k → is_version n ≡ true → takes_top (version_of_number n) x.settings.top ≡ true → Agrees x
      → RecordCalled n (settings_out x) (patterns_out x.bits) k k' c' r → (r ≡ 0) × (take (record_size (version_of_number n)) k' ≡ record_bytes (version_of_number n) x)
  copied n {k} {r = r} room known top a called =
      let v = version_of_number n in
      let all = (first_none choices (settings_out x) 0).1 (five_known x.kind x.settings five) in
      let verdict : record_verdict v (record_in (settings_out x) (patterns_out x.bits)) (length k) ≡ wrote (record_size v) = rw (top, le-ltb (length k) (record_size v) room) in
      let right = record_known n (settings_out x) (length k) known top (patterns_out x.bits) all ∙ verdict in
      let z : r ≡ 0 = called.says.number ∙ ap (λ (t : AnswerCode). t.number) right in
      (z, rw (rw (z, same_record a) at called.list) (over_front k (record_bytes v x) (record_size v) (sym (record_length v x))))

-- what was read, written in its version into a list with room: the answer 0, and the bytes it was read from
pub record_copied : (n : ℕ) (l : List ℕ) (at : ℕ) {after : RecordMemory} {k k' c' : List ℕ} {r : ℕ} → Bytes l → RecordAsked n l at after 0
    → record_size (version_of_number n) ≤ length k → RecordCalled n after.settings after.patterns k k' c' r
    → (r ≡ 0) × (take (record_size (version_of_number n)) k' ≡ take (record_size (version_of_number n)) (drop at l))
record_copied n l at b asked room called =
    let w = was_read n l at (sym asked.number) in
    let again = record_again (version_of_number n) l at w.x w.next b w.is in
    let c = copied w.x n room w.known again.0.top again.1 (rw (asked.settings ∙ w.settings, asked.patterns ∙ w.patterns) at called) in
    (c.0, c.1 ∙ sym again.2)
