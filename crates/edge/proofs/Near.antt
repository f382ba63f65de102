-- Each point between the ends of an edge lies less than one unit from its exact place. Assumes nothing.
use mathlib.Core.Path.{◌≡◌, sym, ap, ◌∙◌}
use Prim.Native.Nat.{ℕ, ◌+◌, ◌*◌, ◌-◌, ◌<◌}
use native.Mathlib.Decide.{dec_le}
use native.Mathlib.Nat.{add-mul}
use native.Mathlib.Omega.{arith}
use Rattle.edge.specs.Positions.{reach, position}
use Rattle.edge.specs.Near.{NearPlace}
use Rattle.edge.proofs.Reach.{Short, reach_short, low, high}
use Rattle.level.specs.Segments.{Valid}

near_low : (n L i d r q : ℕ) → 0 < L → 2 * i + d ≡ n → q + r ≡ 32768 → Short L d r → NearPlace n L i q
near_low n L i d r q p h e s =
    let m : q * L + r * L ≡ 32768 * L = sym (add-mul q r L) ∙ ap (λ x. x * L) e in
    record { below = omega arith; above = omega arith }

near_high : (n L i d r q : ℕ) → 0 < L → n + d ≡ 2 * i → q ≡ 32768 + r → Short L d r → NearPlace n L i q
near_high n L i d r q p h e s =
    let m : q * L ≡ 32768 * L + r * L = ap (λ x. x * L) e ∙ add-mul 32768 r L in
    record { below = omega arith; above = omega arith }

pub near : (n L : ℕ) → Valid n L → (i : ℕ) → 0 < i → i < n → NearPlace n L i (position n L i)
near n L v i a b = elim (dec_le (2 * i) n) [
  | yes h ↦ let d = n - 2 * i in let s = reach_short n L v d (omega arith) in
      near_low n L i d (reach L d) (position n L i) (omega arith) (omega arith) (omega (arith, low n L i d (omega arith))) s
  | no h ↦ let d = 2 * i - n in
      near_high n L i d (reach L d) (position n L i) (omega arith) (omega arith) (high n L i d (omega arith)) (reach_short n L v d (omega arith))
]
