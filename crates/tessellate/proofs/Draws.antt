-- The right answer of a drawing operation, by what it finds. Assumes nothing.
use Prim.Native.Nat.{ℕ, ◌≤◌, ◌<◌}
use mathlib.Core.Path.{◌≡◌}
use mathlib.Core.Bool.{true, false}
use borrow.Author.Tests.{lt-ltb, le-ltb}
use Rattle.level.specs.Top.{is_top}
use Rattle.patch.specs.declared.kinds.Patch.{Patch}
use Rattle.patch.specs.declared.settings.Settings.{Settings}
use Rattle.patch.specs.Subdivide.{discards}
use Rattle.tessellate.specs.Answers.{list_verdict}
use Rattle.answer_codes.specs.AnswerCode.{refused, drew}

module _ (set : Settings) (p : Patch) (short need have count : ℕ) where
  pub told_bad : is_top set.top ≡ false → list_verdict set p short need have count ≡ refused 11
  unfolding list_verdict
  told_bad e = rw e

  module _ (top : is_top set.top ≡ true) where
    pub told_discarded : discards p ≡ true → list_verdict set p short need have count ≡ refused 1
    unfolding list_verdict
    told_discarded d = rw (top, d)

    pub told_short : discards p ≡ false → have < need → list_verdict set p short need have count ≡ refused short
    unfolding list_verdict
    told_short d h = rw (top, d, lt-ltb have need h)

    pub told_drawn : discards p ≡ false → need ≤ have → list_verdict set p short need have count ≡ drew count
    unfolding list_verdict
    told_drawn d h = rw (top, d, le-ltb have need h)
