-- Each point of an edge lies further along it than the one before. Assumes nothing.
use Prim.Native.Nat.{ℕ, suc, ◌+◌, ◌*◌, ◌-◌, ◌<◌}
use native.Mathlib.Decide.{dec_le}
use native.Mathlib.Numerals.{add-one}
use native.Mathlib.Omega.{arith}
use Rattle.edge.specs.Positions.{position}
use Rattle.edge.proofs.Reach.{reach_most, reach_some, reach_more, low, high}
use Rattle.level.specs.Segments.{Valid}

module _ (n L : ℕ) (v : Valid n L) where
  pub rises : (i : ℕ) → i < n → position n L i < position n L (i + 1)
  rises i h = elim (dec_le (2 * i + 2) n) [
    | yes a ↦ let d = n - (2 * i + 2) in
        omega (arith, low n L i (d + 2) (omega arith), low n L (i + 1) d (omega arith), reach_more n L v d (d + 2) (omega arith) (omega arith), reach_most L (d + 2))
    | no a ↦ elim (dec_le n (2 * i)) [
      | yes b ↦ let d = 2 * i - n in
          omega (arith, high n L i d (omega arith), high n L (i + 1) (d + 2) (omega arith), reach_more n L v d (d + 2) (omega arith) (omega arith))
      | no b ↦ omega (arith, low n L i 1 (omega arith), high n L (i + 1) 1 (omega arith), reach_some n L v 1 (omega arith))
    ]
  ]

  pub rises_suc : (i : ℕ) → i < n → position n L i < position n L (suc i)
  rises_suc i h = rw add-one at (rises i h)
