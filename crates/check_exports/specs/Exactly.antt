-- When a call that checks a mesh gives which answer. Assumes nothing.
use Rattle.std.specs.Prelude.{ℕ, ◌≡◌, List, ◌↔◌, Float, get_or, Err}
use Rattle.job_fields.specs.Settings.{choices, AllBelow}
use Rattle.check_verdict.specs.Faults.{Verdict}
use Rattle.check_verdict.specs.declared.fault.Fault.TheVariants.{BadTop, Isolines, Dots, ShouldBeDiscarded, NotThrees, UnknownIndex, Outside, EqualPoints, Turned, SideTwice, OpenSide, MissingPiece}
use Rattle.check_soundness.specs.Means.{Accepts, Means}
use Rattle.check_soundness.specs.Numbers.{verdict_code}
use Rattle.call_answers.specs.Replies.{two_words}
use Rattle.call_inputs.specs.Inputs.{patch_in, settings_in}
use Rattle.call_inputs.specs.Exactly.{CallAnswer, unknown, found, CallMeans, CalledExactly}

-- when each answer of the call is right
abbrev pub CheckCallMeans : List ℕ → List Float → List ℕ → List ℕ → CallAnswer Verdict → Type 0
CheckCallMeans bs xs pw iw a = CallMeans bs (Means (settings_in bs) (patch_in bs xs) pw iw) a

-- when the call gives each number, and which places it leaves in memory
pub record CheckExactly (bs : List ℕ) (xs : List Float) (pw iw c' : List ℕ) (r : ℕ) : Type 0 where
  -- each answer is given, by number and places, exactly if it is right
  pub answers : CalledExactly two_words verdict_code bs (Means (settings_in bs) (patch_in bs xs) pw iw) c' r
  -- 0: the settings are known, and the mesh is accepted
  pub accepted : (r ≡ 0) ↔ (AllBelow choices bs 0 × Accepts (settings_in bs) (patch_in bs xs) pw iw)
  pub unknown_setting_lem : (r ≡ 8) ↔ CheckCallMeans bs xs pw iw (unknown (get_or c' 0 0))
  pub bad_top_lem : (r ≡ 11) ↔ CheckCallMeans bs xs pw iw (found (Err BadTop))
  pub isolines : (r ≡ 20) ↔ CheckCallMeans bs xs pw iw (found (Err Isolines))
  pub dots : (r ≡ 21) ↔ CheckCallMeans bs xs pw iw (found (Err Dots))
  pub should_be_discarded : (r ≡ 22) ↔ CheckCallMeans bs xs pw iw (found (Err ShouldBeDiscarded))
  pub not_threes : (r ≡ 23) ↔ CheckCallMeans bs xs pw iw (found (Err NotThrees))
  pub unknown_index : (r ≡ 24) ↔ CheckCallMeans bs xs pw iw (found (Err (UnknownIndex (get_or c' 0 0))))
  pub outside : (r ≡ 25) ↔ CheckCallMeans bs xs pw iw (found (Err (Outside (get_or c' 0 0))))
  pub equal_points_lem : (r ≡ 26) ↔ CheckCallMeans bs xs pw iw (found (Err (EqualPoints (get_or c' 0 0) (get_or c' 1 0))))
  pub turned : (r ≡ 27) ↔ CheckCallMeans bs xs pw iw (found (Err (Turned (get_or c' 0 0))))
  pub side_twice_lem : (r ≡ 28) ↔ CheckCallMeans bs xs pw iw (found (Err (SideTwice (get_or c' 0 0) (get_or c' 1 0))))
  pub open_side_lem : (r ≡ 29) ↔ CheckCallMeans bs xs pw iw (found (Err (OpenSide (get_or c' 0 0) (get_or c' 1 0))))
  pub missing_piece : (r ≡ 30) ↔ CheckCallMeans bs xs pw iw (found (Err (MissingPiece (get_or c' 0 0))))
