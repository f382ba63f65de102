-- A mesh that the call accepts covers its patch, and exactly one triangle holds each spot inside that lies on no side. Assumes nothing.
use Rattle.std.specs.Prelude.{Ok, Err}
use Prim.Native.Nat.{ℕ}
use mathlib.Core.Path.{◌≡◌, refl, sym, ap, ◌∙◌}
use mathlib.Core.Bool.{false}
use mathlib.Core.List.{List}
use native.Mathlib.Omega.{arith}
use lib.Ieee.{Float}
use Rattle.patch.specs.Subdivide.{discards}
use Rattle.answer_codes.specs.AnswerCode.{AnswerCode}
use Rattle.check_verdict.specs.Faults.{Verdict}
use Rattle.check_verdict.specs.declared.fault.Fault.TheVariants.{
  BadTop,
  Isolines,
  Dots,
  ShouldBeDiscarded,
  NotThrees,
  UnknownIndex,
  Outside,
  EqualPoints,
  Turned,
  SideTwice,
  OpenSide,
  MissingPiece,
}
use Rattle.check_soundness.specs.Answers.{check_verdict}
use Rattle.check_soundness.specs.Numbers.{verdict_code}
use Rattle.check_soundness.specs.Covered.{Covered}
use Rattle.check_soundness.proofs.Named.{verdict}
use Rattle.check_soundness.proofs.Numbers.{verdict_told}
use Rattle.check_soundness.proofs.Verdicts.{checked}
use Rattle.check_soundness.proofs.Accepted.{accepted_covered}
use Rattle.call_answers.specs.Replies.{two_words, Says}
use Rattle.call_inputs.specs.Inputs.{patch_in, settings_in}
use Rattle.call_inputs.proofs.Known.{known_zero}
use Rattle.check_exports.specs.Founds.{check_says}

-- no fault has the number 0
zero_accepted : (v : Verdict) → (verdict_code v).number ≡ 0 → v ≡ Ok tt
zero_accepted (Ok x) e = refl
zero_accepted (Err BadTop) e = absurd (omega arith)
zero_accepted (Err Isolines) e = absurd (omega arith)
zero_accepted (Err Dots) e = absurd (omega arith)
zero_accepted (Err ShouldBeDiscarded) e = absurd (omega arith)
zero_accepted (Err NotThrees) e = absurd (omega arith)
zero_accepted (Err (UnknownIndex place)) e = absurd (omega arith)
zero_accepted (Err (Outside point)) e = absurd (omega arith)
zero_accepted (Err (EqualPoints first second)) e = absurd (omega arith)
zero_accepted (Err (Turned triangle)) e = absurd (omega arith)
zero_accepted (Err (SideTwice first second)) e = absurd (omega arith)
zero_accepted (Err (OpenSide triangle corner)) e = absurd (omega arith)
zero_accepted (Err (MissingPiece piece)) e = absurd (omega arith)

pub called_covered : (bs : List ℕ) (xs : List Float) (pw iw : List ℕ) {c' : List ℕ} → Says two_words (check_says bs xs pw iw) c' 0
    → discards (patch_in bs xs) ≡ false → Covered (settings_in bs) (patch_in bs xs) pw iw
called_covered bs xs pw iw s d =
    let v = verdict (settings_in bs) (patch_in bs xs) pw iw in
    let k = known_zero bs (check_verdict (settings_in bs) (patch_in bs xs) pw iw) (sym s.number) in
    let z = zero_accepted v (ap (λ (x : AnswerCode). x.number) (verdict_told (settings_in bs) (patch_in bs xs) pw iw ∙ sym k) ∙ sym s.number) in
    accepted_covered (settings_in bs) (patch_in bs xs) pw iw (checked (settings_in bs) (patch_in bs xs) pw iw (sym z)) d
