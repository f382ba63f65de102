-- An element of joined lists, by the number of its list and its place there. Assumes nothing.
use Prim.Native.Nat.{ℕ, zero, suc, ◌+◌, ◌-◌, ◌<◌}
use mathlib.Core.Path.{◌≡◌}
use native.Mathlib.Omega.{arith}
use native.Mathlib.Decide.{dec_le}
use Rattle.mesh_topology.specs.Sides.{sum}

-- place m is place i of list k, where list k has w k elements
pub record Located (w : ℕ → ℕ) (n m : ℕ) : Type 0 where
  pub k : ℕ
  pub i : ℕ
  pub list : k < n
  pub within : i < w k
  pub is : sum w k + i ≡ m

pub located : (w : ℕ → ℕ) (n m : ℕ) → m < sum w n → Located w n m
unfolding sum
located w zero m h = absurd (omega arith)
located w (suc n) m h = elim (dec_le (suc m) (sum w n)) [
  | yes l ↦ let s = located w n m l in record { k = s.k; i = s.i; list = omega arith; within = s.within; is = s.is }
  | no l ↦ record { k = n; i = m - sum w n; list = omega arith; within = omega arith; is = omega arith }
]
