-- An edge is the same from both ends: point i is as far from one end as point n - i from the other. Assumes nothing.
use mathlib.Core.Path.{◌≡◌}
use Prim.Native.Nat.{ℕ, ◌+◌, ◌-◌, ◌≤◌}
use native.Mathlib.Decide.{dec_le}
use native.Mathlib.Omega.{arith}
use Rattle.edge.specs.Positions.{position}
use Rattle.edge.proofs.Reach.{reach_most, low, high}

-- of the two points the first is in the lower half
halves : (n L i j : ℕ) → i + j ≡ n → i ≤ j → position n L i + position n L j ≡ 65536
halves n L i j e h =
    let d = j - i in
    omega (arith, low n L i d (omega arith), high n L j d (omega arith), reach_most L d)

pub mirrored : (n L i : ℕ) → i ≤ n → position n L i + position n L (n - i) ≡ 65536
mirrored n L i h = elim (dec_le i (n - i)) [
  | yes l ↦ halves n L i (n - i) (omega arith) l
  | no l ↦ omega (arith, halves n L (n - i) i (omega arith) (omega arith))
]
