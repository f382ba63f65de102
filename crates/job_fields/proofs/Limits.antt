-- The first byte that is not below its limit. Assumes nothing.
use Prim.Native.Nat.{ℕ, zero, suc, ◌+◌, ◌≤◌, ◌<◌}
use native.Mathlib.Nat.{add-zero}
use native.Mathlib.Decide.{dec_lt}
use native.Mathlib.Omega.{arith}
use mathlib.Core.Logic.{◌↔◌}
use mathlib.Core.Path.{◌≡◌, refl}
use mathlib.Core.List.{List, [], ◌∷◌}
use borrow.Author.Tests.{lt-ltb, le-ltb}
use lib.ListN.{length, get_or}
use Rattle.job_fields.specs.Bytes.{byte_at}
use Rattle.job_fields.specs.Settings.{first_over, FirstOver, AllBelow}

-- one limit: the first byte is below it, or the first byte is the one that is found
module _ (limit : ℕ) (limits bs : List ℕ) (at : ℕ) where
  step_in : byte_at bs at < limit → first_over (limit ∷ limits) bs at ≡ suc (first_over limits bs (at + 1))
  unfolding first_over
  step_in h = rw (lt-ltb _ _ h)

  step_over : limit ≤ byte_at bs at → first_over (limit ∷ limits) bs at ≡ 0
  unfolding first_over
  step_over h = rw (le-ltb _ _ h)

first_most : (limits bs : List ℕ) (at : ℕ) → first_over limits bs at ≤ length limits
unfolding first_over
first_most [] bs at = omega arith
first_most (limit ∷ limits) bs at = elim (dec_lt (byte_at bs at) limit) [
  | yes h ↦ omega (arith, step_in limit limits bs at h, first_most limits bs (at + 1))
  | no h ↦ omega (arith, step_over limit limits bs at (omega arith))
]

next : (at k : ℕ) → at + suc k ≡ at + 1 + k
next at k = omega arith

first_below : (limits bs : List ℕ) (at k : ℕ) → k < first_over limits bs at → byte_at bs (at + k) < get_or limits k 0
unfolding first_over
first_below [] bs at k h = absurd (omega arith)
first_below (limit ∷ limits) bs at zero h = rw (add-zero at) (elim (dec_lt (byte_at bs at) limit) [
  | yes l ↦ l
  | no l ↦ absurd (omega (arith, step_over limit limits bs at (omega arith)))
])
first_below (limit ∷ limits) bs at (suc k) h = elim (dec_lt (byte_at bs at) limit) [
  | yes l ↦ rw (next at k) (first_below limits bs (at + 1) k (omega (arith, step_in limit limits bs at l)))
  | no l ↦ absurd (omega (arith, step_over limit limits bs at (omega arith)))
]

first_over_lem : (limits bs : List ℕ) (at place : ℕ) → first_over limits bs at ≡ place → place < length limits
    → get_or limits place 0 ≤ byte_at bs (at + place)
unfolding first_over
first_over_lem [] bs at place e h = absurd (omega arith)
first_over_lem (limit ∷ limits) bs at zero e h = rw (add-zero at) (elim (dec_lt (byte_at bs at) limit) [
  | yes l ↦ absurd (omega (arith, step_in limit limits bs at l))
  | no l ↦ omega arith
])
first_over_lem (limit ∷ limits) bs at (suc place) e h = elim (dec_lt (byte_at bs at) limit) [
  | yes l ↦ rw (next at place) (first_over_lem limits bs (at + 1) place (omega (arith, step_in limit limits bs at l)) (omega arith))
  | no l ↦ absurd (omega (arith, step_over limit limits bs at (omega arith)))
]

module _ (limits bs : List ℕ) (at : ℕ) where
  -- a place below the number of limits is that of the first byte not below its limit
  pub first_is : (place : ℕ) → (first_over limits bs at ≡ place) × (place < length limits) ↔ FirstOver limits bs at place
  first_is place = (to, from)
    where
      to : (first_over limits bs at ≡ place) × (place < length limits) → FirstOver limits bs at place
      to (e, h) = record { within = h; over = first_over_lem limits bs at place e h; below = λ k l. first_below limits bs at k (omega arith) }

      from : FirstOver limits bs at place → (first_over limits bs at ≡ place) × (place < length limits)
      from f = (
        elim (dec_lt (first_over limits bs at) place) [
          | yes h ↦ absurd (omega (arith, f.within, f.below _ h, first_over_lem limits bs at _ refl (omega (arith, f.within))))
          | no h ↦ elim (dec_lt place (first_over limits bs at)) [
            | yes k ↦ absurd (omega (arith, f.over, first_below limits bs at place k))
            | no k ↦ omega arith
          ]
        ],
        f.within,
      )

  -- no such byte exists exactly if every byte is below its limit
  pub first_none : length limits ≤ first_over limits bs at ↔ AllBelow limits bs at
  first_none = (
    λ h k l. first_below limits bs at k (omega arith),
    λ a. elim (dec_lt (first_over limits bs at) (length limits)) [
      | yes h ↦ absurd (omega (arith, a _ h, first_over_lem limits bs at _ refl h))
      | no h ↦ omega arith
    ],
  )

  pub first_all : AllBelow limits bs at → first_over limits bs at ≡ length limits
  first_all a = omega (arith, first_none.1 a, first_most limits bs at)
