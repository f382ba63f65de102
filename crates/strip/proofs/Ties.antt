-- A comparison in which another test decides ties, as one comparison of numbers: if the tie goes against x, x counts as one
-- more. Assumes nothing.
use Prim.Native.Nat.{ℕ, suc, ◌+◌, ◌-◌, ◌≤◌, ◌<◌, min}
use mathlib.Core.Path.{◌≡◌, sym, ◌∙◌}
use mathlib.Core.Bool.{true, false}
use native.Mathlib.Omega.{arith}
use native.Mathlib.Decide.{dec_le}
use borrow.Author.Tests.{le-leb, lt-leb, leb-true, leb-false}
use lib.Dec.{leb}
use Rattle.strip.specs.Rule.{comes_first}

module _ (u v x y : ℕ) where
  -- u ≤ v decides a tie between x and y
  one_test : comes_first (leb u v) x y ≡ leb (x + min 1 (u - v)) y
  one_test = elim (dec_le u v) [
    | yes h ↦ let e : x + min 1 (u - v) ≡ x = omega arith in rw (le-leb u v h, e)
    | no h ↦ let e : x + min 1 (u - v) ≡ suc x = omega arith in rw (lt-leb u v (omega arith), e)
  ]

  -- when the comparison holds, and when it fails
  pub first : x + min 1 (u - v) ≤ y → comes_first (leb u v) x y ≡ true
  first h = one_test ∙ le-leb (x + min 1 (u - v)) y h

  pub second : y < x + min 1 (u - v) → comes_first (leb u v) x y ≡ false
  second h = one_test ∙ lt-leb (x + min 1 (u - v)) y h

  -- what follows if it holds, and if it fails
  pub was_first : comes_first (leb u v) x y ≡ true → x + min 1 (u - v) ≤ y
  was_first e = leb-true (x + min 1 (u - v)) y (sym one_test ∙ e)

  pub was_second : comes_first (leb u v) x y ≡ false → y < x + min 1 (u - v)
  was_second e = leb-false (x + min 1 (u - v)) y (sym one_test ∙ e)

-- the facts with which `omega` evaluates the comparison
pub ruleset ties = (first, second, was_first, was_second)
