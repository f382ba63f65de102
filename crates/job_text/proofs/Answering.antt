-- The invariant of the loop that answers record after record: its start, a pass and its end. Assumes nothing.
use Prim.Native.Nat.{ℕ, ◌≤◌, ◌<◌}
use mathlib.Core.Path.{◌≡◌, refl, sym, ap, ◌∙◌}
use mathlib.Core.List.{List, ◌++◌, append_assoc}
use native.Mathlib.Omega.{arith}
use lib.ListN.{length, take}
use Rattle.buffer.specs.Over.{Wrote}
use Rattle.job_fields.specs.declared.version.Version.{Version}
use Rattle.job.specs.Records.{Answer, record_at}
use Rattle.job_record_text.specs.Replies.{record_reply, goes_on}
use Rattle.job_text.specs.Jobs.{answers_from}
use Rattle.job_text.proofs.Steps.{goes_on_lem, answers_step}
use Rattle.buffer.proofs.Laws.{wrote_within, wrote_front}

-- the first w bytes of `out` are the text for the records from `from` up to `at`
pub record Answering (v : Version) (bs : List ℕ) (from : ℕ) (out : List ℕ) (w at : ℕ) : Type 0 where
  pub text : answers_from v bs from ≡ take w out ++ answers_from v bs at
  pub fits : w ≤ length out
  pub past : from ≤ at
  -- if text was written, it answers a record
  pub on : 1 ≤ w → from < at

module _ (v : Version) (bs : List ℕ) where
  pub answering_start : (from : ℕ) (out : List ℕ) → Answering v bs from out 0 from
  answering_start from out = record { text = refl; fits = omega arith; past = omega arith; on = λ h. omega arith }

  module _ {at next : ℕ} {found : Answer} (h : at < length bs) (e : found ≡ record_at v bs at) (n : next ≡ goes_on (length bs) found) where
    pub answering_next : at < next
    answering_next = omega (arith, ap (goes_on (length bs)) e, goes_on_lem v bs at h)

    pub answering_step : {from : ℕ} {out out' : List ℕ} {w w' : ℕ} → Wrote out w (record_reply found) out' w' → Answering v bs from out w at → Answering v bs from out' w' next
    answering_step {out = out} {w = w} p a =
        let later = answering_next in
        record {
          text =
              a.text ∙ ap (λ (l : List ℕ). take w out ++ l) (answers_step v bs at ∙ rw (n, e))
              ∙ sym (append_assoc (take w out) (record_reply found) (answers_from v bs next)) ∙ rw (wrote_front a.fits p);
          fits = wrote_within a.fits p;
          past = omega arith;
          on = λ _. omega arith;
        }
