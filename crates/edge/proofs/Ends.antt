-- The points of an edge go from 0 to 65536. Assumes nothing.
use mathlib.Core.Path.{◌≡◌}
use Prim.Native.Nat.{ℕ, ◌*◌, ◌-◌, ◌≤◌}
use native.Mathlib.Decide.{dec_le}
use native.Mathlib.Omega.{arith}
use Rattle.edge.specs.Positions.{position}
use Rattle.edge.proofs.Reach.{reach_most, reach_all, low, high}
use Rattle.level.specs.Segments.{Valid}

module _ (n L : ℕ) (v : Valid n L) where
  pub starts : position n L 0 ≡ 0
  starts = omega (arith, low n L 0 n (omega arith), reach_all n L v)

  pub ends : position n L n ≡ 65536
  ends = omega (arith, high n L n n (omega arith), reach_all n L v)

pub most : (n L i : ℕ) → position n L i ≤ 65536
most n L i = elim (dec_le (2 * i) n) [
  | yes h ↦ let d = n - 2 * i in omega (arith, low n L i d (omega arith))
  | no h ↦ let d = 2 * i - n in omega (arith, high n L i d (omega arith), reach_most L d)
]
