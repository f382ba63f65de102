-- The text of some bytes' records, as it is written part after part. Assumes nothing.
use Prim.Native.Nat.{ℕ, ◌+◌, ◌*◌, ◌≤◌, ◌<◌, min}
use mathlib.Core.Path.{◌≡◌, ap, ◌∙◌}
use mathlib.Core.Bool.{true, false}
use mathlib.Core.List.{List}
use native.Mathlib.Omega.{arith}
use lib.ListN.{length, take, length-append, length-take}
use Rattle.standard_streams.specs.Moved.{Taken}
use Rattle.standard_streams.proofs.Takes.{taken_short, taken_all, taken_fewer, taken_whole}
use Rattle.job_fields.specs.declared.version.Version.{Version}
use Rattle.job_text.specs.Jobs.{answers_from}
use Rattle.job_text.proofs.Steps.{answers_end}
use Rattle.tsj_pieces.specs.declared.chunk.Step.{Step}
use Rattle.tsj_pieces.specs.Chunks.{AnsweredSome}

-- count bytes of text were written, which answer the records up to `at`
pub record Written (v : Version) (bs : List ℕ) (count at : ℕ) : Type 0 where
  pub text : length (answers_from v bs 0) ≡ count + length (answers_from v bs at)
  pub most : count ≤ 524288 * min at 7680

pub written_start : (v : Version) (bs : List ℕ) → Written v bs 0 0
written_start v bs = record { text = omega arith; most = omega arith }

module _ {v : Version} {bs : List ℕ} {count at : ℕ} (w : Written v bs count at) where
  pub written_end : length bs ≤ at → Taken (length (answers_from v bs 0)) (record { count = count; failed = false })
  written_end h =
      let none : length (answers_from v bs at) ≡ 0 = ap length (answers_end v bs (length bs) at h) in
      taken_all (omega (arith, w.text)) (omega (arith, w.text))

  module _ {out : List ℕ} {r : Step} (a : AnsweredSome v bs at out r) where
    part : length (answers_from v bs at) ≡ r.progress.written + length (answers_from v bs r.progress.next)
    part =
        ap length a.reported.text ∙ length-append (take r.progress.written out) (answers_from v bs r.progress.next)
        ∙ ap (λ (n : ℕ). n + length (answers_from v bs r.progress.next))
        (let e : length (take r.progress.written out) ≡ r.progress.written = omega (arith, length-take r.progress.written out, a.reported.fits) in e)

    pub written_short : r.output.failed ≡ true → Taken (length (answers_from v bs 0)) (record { count = count + r.output.count; failed = true })
    written_short h = taken_short (omega (arith, w.text, part, taken_fewer a.taken h))

    module _ (h : at < length bs) (l : length bs ≤ 7680) (o : length out ≤ 524288) where
      pub written_most : count + r.output.count ≤ 4026531840
      written_most = omega (arith, w.most, a.taken.most, a.reported.fits)

      pub written_step : r.output.failed ≡ false → Written v bs (count + r.output.count) r.progress.next
      written_step g = record {
        text = omega (arith, w.text, part, taken_whole a.taken g);
        most = omega (arith, w.most, a.taken.most, a.reported.fits, a.reported.on h);
      }
