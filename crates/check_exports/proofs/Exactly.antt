-- A call that checks gives each number exactly if it is right. Assumes nothing.
use Rattle.std.specs.Prelude.{Err}
use Prim.Native.Nat.{ℕ}
use mathlib.Core.Path.{◌≡◌, refl, ap}
use mathlib.Core.Bool.{false}
use mathlib.Core.List.{List}
use mathlib.Core.Logic.{◌↔◌, ⊎_elim}
use native.Mathlib.Omega.{arith}
use borrow.Author.Tests.{ne_eqb}
use lib.Dec.{eqb}
use lib.Ieee.{Float}
use Rattle.level.specs.Top.{Top}
use Rattle.patch.specs.declared.kinds.Patch.{Patch}
use Rattle.patch.specs.declared.settings.Settings.{Settings}
use Rattle.check_verdict.specs.Faults.{Verdict}
use Rattle.check_verdict.specs.declared.fault.Fault.TheVariants.{BadTop}
use Rattle.check_soundness.specs.Means.{Accepts, Means}
use Rattle.check_soundness.specs.Numbers.{verdict_code}
use Rattle.check_soundness.proofs.Named.{verdict}
use Rattle.check_soundness.proofs.Numbers.{verdict_in, verdict_back, verdict_told}
use Rattle.check_soundness.proofs.Verdicts.{exactly, answers}
use Rattle.call_answers.specs.Replies.{unknown_setting, bad_top, two_words, Says}
use Rattle.call_answers.proofs.Replies.{says_as}
use Rattle.call_inputs.specs.Inputs.{patch_in, settings_in}
use Rattle.call_inputs.specs.Asked.{known}
use Rattle.call_inputs.specs.Exactly.{call_code, CallMeans}
use Rattle.call_inputs.proofs.Exactly.{Answers, Readable, answer_in, called_exactly, number_called}
use Rattle.check_exports.specs.Founds.{check_says}
use Rattle.check_exports.specs.Exactly.{CheckExactly}

-- no verdict has the number 8, since the verdict that is read from it has another number
no_eight : (v : Verdict) → eqb (verdict_code v).number 8 ≡ false
no_eight v = ne_eqb (verdict_code v).number 8 (λ e. omega (arith, e, ap (λ (w : Verdict). (verdict_code w).number) (rw e at (verdict_back v))))

verdict_readable : Readable two_words verdict_code verdict_in
verdict_readable = record { same = verdict_back; no_eight = no_eight; place = λ k. refl }

-- an accepted mesh has a good top level
accepts_top : (set : Settings) (p : Patch) (pw iw : List ℕ) → Accepts set p pw iw → Top set.top
accepts_top set p pw iw a = ⊎_elim (λ w. w.0.top) (λ w. w.0.asked.top) a

module _ (bs : List ℕ) (xs : List Float) (pw iw : List ℕ) where
  abbrev set : Settings
  set = settings_in bs

  abbrev p : Patch
  p = patch_in bs xs

  operation : Answers bs verdict_code (Means set p pw iw) (verdict set p pw iw) (Err BadTop)
  operation = record { exactly = exactly set p pw iw; bad_number = refl; bad_top_lem = λ n. answers set p pw iw (Err BadTop) n }

  module _ {c' : List ℕ} {r : ℕ} (says : Says two_words (check_says bs xs pw iw) c' r) where
    by_name : Says two_words (known bs bad_top unknown_setting (verdict_code (verdict set p pw iw))) c' r
    by_name = says_as (ap (known bs bad_top unknown_setting) (verdict_told set p pw iw)) says

    at : (n : ℕ) → (call_code verdict_code (answer_in bs verdict_code (Means set p pw iw) (verdict set p pw iw) (Err BadTop) operation two_words verdict_in verdict_readable n c')).number ≡ n
        → (r ≡ n) ↔ CallMeans bs (Means set p pw iw) (answer_in bs verdict_code (Means set p pw iw) (verdict set p pw iw) (Err BadTop) operation two_words verdict_in verdict_readable n c')
    at = number_called bs verdict_code (Means set p pw iw) (verdict set p pw iw) (Err BadTop) operation two_words verdict_in verdict_readable by_name

    pub check_call_exactly : CheckExactly bs xs pw iw c' r
    check_call_exactly = record {
      answers = called_exactly bs verdict_code (Means set p pw iw) (verdict set p pw iw) (Err BadTop) operation two_words verdict_in verdict_readable by_name;
      accepted = (
        λ h. let m = (at 0 refl).0 h in (m.0 (accepts_top set p pw iw m.1), m.1),
        λ m. (at 0 refl).1 ((λ h. m.0), m.1),
      );
      unknown_setting_lem = at 8 refl;
      bad_top_lem = at 11 refl;
      isolines = at 20 refl;
      dots = at 21 refl;
      should_be_discarded = at 22 refl;
      not_threes = at 23 refl;
      unknown_index = at 24 refl;
      outside = at 25 refl;
      equal_points_lem = at 26 refl;
      turned = at 27 refl;
      side_twice_lem = at 28 refl;
      open_side_lem = at 29 refl;
      missing_piece = at 30 refl;
    }
