-- How many bytes a write took, and whether that is fewer than it was given. Assumes nothing.
use Prim.Native.Nat.{ℕ, ◌+◌, ◌≤◌, ◌<◌}
use mathlib.Core.Path.{◌≡◌, sym, ◌∙◌}
use mathlib.Core.Bool.{true, false}
use native.Mathlib.Decide.{dec_le}
use native.Mathlib.Omega.{arith}
use borrow.Author.Tests.{lt-ltb, le-ltb, ltb-true, ltb-false}
use lib.Dec.{ltb}
use Rattle.standard_streams.specs.declared.output.Output.{Output}
use Rattle.standard_streams.specs.Moved.{Taken}

pub taken_short : {n k : ℕ} → k < n → Taken n (record { count = k; failed = true })
taken_short {n} {k} h = record { most = omega arith; failed = sym (lt-ltb k n h) }

pub taken_all : {n k : ℕ} → k ≤ n → n ≤ k → Taken n (record { count = k; failed = false })
taken_all {n} {k} h l = record { most = h; failed = sym (le-ltb k n l) }

module _ {n : ℕ} {r : Output} (t : Taken n r) where
  pub taken_fewer : r.failed ≡ true → r.count < n
  taken_fewer h = ltb-true r.count n (sym t.failed ∙ h)

  pub taken_whole : r.failed ≡ false → r.count ≡ n
  taken_whole h = omega (arith, ltb-false r.count n (sym t.failed ∙ h), t.most)

  -- m further bytes were written before, all of them taken
  pub taken_after : (m : ℕ) → Taken (m + n) (record { count = m + r.count; failed = r.failed })
  taken_after m = record { most = omega (arith, t.most); failed = t.failed ∙ ltb_shift m r.count n }
    where
      ltb_shift : (m k n : ℕ) → ltb k n ≡ ltb (m + k) (m + n)
      ltb_shift m k n = elim (dec_le n k) [
        | yes h ↦ le-ltb k n h ∙ sym (le-ltb (m + k) (m + n) (omega arith))
        | no h ↦ lt-ltb k n (omega arith) ∙ sym (lt-ltb (m + k) (m + n) (omega arith))
      ]
