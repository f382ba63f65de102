-- The number and the values of each answer. Assumes nothing.
use Rattle.std.specs.Prelude.{[], ◌∷◌, Ok, Err}
use Rattle.answer_codes.specs.AnswerCode.{AnswerCode, refused, done}
use Rattle.check_verdict.specs.Faults.{Verdict}
use Rattle.check_verdict.specs.declared.fault.Fault.TheVariants.{
  BadTop,
  Isolines,
  Dots,
  ShouldBeDiscarded,
  NotThrees,
  UnknownIndex,
  Outside,
  EqualPoints,
  Turned,
  SideTwice,
  OpenSide,
  MissingPiece,
}

-- 0 is accepted, 11 a bad top level, 20 and up are the faults in the order of finding
abbrev pub verdict_code : Verdict → AnswerCode
verdict_code (Ok x) = done
verdict_code (Err BadTop) = refused 11
verdict_code (Err Isolines) = refused 20
verdict_code (Err Dots) = refused 21
verdict_code (Err ShouldBeDiscarded) = refused 22
verdict_code (Err NotThrees) = refused 23
verdict_code (Err (UnknownIndex place)) = record { number = 24; values = place ∷ [] }
verdict_code (Err (Outside point)) = record { number = 25; values = point ∷ [] }
verdict_code (Err (EqualPoints first second)) = record { number = 26; values = first ∷ second ∷ [] }
verdict_code (Err (Turned triangle)) = record { number = 27; values = triangle ∷ [] }
verdict_code (Err (SideTwice first second)) = record { number = 28; values = first ∷ second ∷ [] }
verdict_code (Err (OpenSide triangle corner)) = record { number = 29; values = triangle ∷ corner ∷ [] }
verdict_code (Err (MissingPiece piece)) = record { number = 30; values = piece ∷ [] }
