-- What "drawn" means, and when each answer of drawing applies. Assumes nothing.
use Prim.Native.Nat.{ℕ, ◌+◌, ◌*◌, ◌≤◌}
use mathlib.Core.Path.{◌≡◌, refl}
use mathlib.Core.Bool.{Bool, true, false, cond}
use native.Mathlib.Omega.{arith}
use borrow.Author.Tests.{ltb-false}
use lib.Dec.{ltb}
use Rattle.level.specs.Top.{is_top}
use Rattle.patch.specs.declared.kinds.Patch.{Patch}
use Rattle.patch.specs.declared.settings.Settings.{Settings}
use Rattle.patch.specs.Subdivide.{discards}
use Rattle.measure.specs.Sizes.{points_of, indices_of}
use Rattle.answer_codes.specs.AnswerCode.{refused, drew_both}
use Rattle.share_answers.specs.Answers.{room_verdict, part_verdict, share_verdict}

-- no test refuses the drawing
pub record Passed (set : Settings) (p : Patch) (ok : Bool) (n v i : ℕ) : Type 0 where
  pub top : is_top set.top ≡ true
  pub state : ok ≡ true
  pub drawn : discards p ≡ false
  pub numbered : n + points_of set p ≤ 65535
  pub vertices : 3 * points_of set p ≤ v
  pub indices : indices_of set p ≤ i

module _ (set : Settings) (p : Patch) (ok : Bool) (n v i : ℕ) where
  pub passed : (share_verdict set p ok n v i).number ≡ 0 → Passed set p ok n v i
  unfolding share_verdict part_verdict room_verdict
  passed = go (is_top set.top) ok (discards p) (ltb 65535 (n + points_of set p)) (ltb v (3 * points_of set p)) (ltb i (indices_of set p)) refl refl refl refl refl refl
    where
      go : (t o x many few less : Bool) → is_top set.top ≡ t → ok ≡ o → discards p ≡ x → ltb 65535 (n + points_of set p) ≡ many
          → ltb v (3 * points_of set p) ≡ few → ltb i (indices_of set p) ≡ less
          → (cond t (cond o (cond x (refused 1) (cond many (refused 13) (cond few (refused 3)
          (cond less (refused 4) (drew_both (points_of set p) (indices_of set p)))))) (refused 14)) (refused 11)).number ≡ 0
          → Passed set p ok n v i
      go false o x many few less a b c d e f h = absurd (omega arith)
      go true false x many few less a b c d e f h = absurd (omega arith)
      go true true true many few less a b c d e f h = absurd (omega arith)
      go true true false true few less a b c d e f h = absurd (omega arith)
      go true true false false true less a b c d e f h = absurd (omega arith)
      go true true false false false true a b c d e f h = absurd (omega arith)
      go true true false false false false a b c d e f h =
          record { top = a; state = b; drawn = c; numbered = ltb-false _ _ d; vertices = ltb-false _ _ e; indices = ltb-false _ _ f }
