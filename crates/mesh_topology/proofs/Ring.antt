-- The vertices of a closed ring. Assumes nothing.
use Prim.Native.Nat.{ℕ, ◌+◌, ◌≤◌, ◌<◌, max}
use mathlib.Core.Path.{◌≡◌, refl}
use mathlib.Core.Logic.{◌⊎◌, inl, inr, ⊎_elim}
use mathlib.Core.Bool.{Bool, true, false}
use native.Mathlib.Omega.{arith}
use lib.Dec.{eqb}
use borrow.Author.Tests.{eqb-true, eqb-false}
use Rattle.mesh_topology.specs.Ring.{ring_at}
use Rattle.mesh_topology.proofs.Line.{Closed}

-- vertex k of a ring is `base` if k is `total`, and otherwise `base` + k
pub ring_point : (base total k : ℕ) → ((k ≡ total) × (ring_at base total k ≡ base)) ⊎ ((k ≡ total → ⊥) × (ring_at base total k ≡ base + k))
unfolding ring_at
ring_point base total k = go (eqb k total) refl
  where
    go : (t : Bool) → eqb k total ≡ t → ((k ≡ total) × (ring_at base total k ≡ base)) ⊎ ((k ≡ total → ⊥) × (ring_at base total k ≡ base + k))
    go true e = inl (eqb-true k total e, rw e (omega arith))
    go false e = inr (eqb-false k total e, rw e)

pub ring_zero : (base total : ℕ) → ring_at base total 0 ≡ base
ring_zero base total = ⊎_elim (λ h. omega arith) (λ h. omega arith) (ring_point base total 0)

pub ring_last : (base total : ℕ) → ring_at base total total ≡ base
ring_last base total = ⊎_elim (λ h. omega arith) (λ h. absurd (h.0 refl)) (ring_point base total total)

pub ring_before : (base total k : ℕ) → k < total → ring_at base total k ≡ base + k
ring_before base total k h = ⊎_elim (λ e. absurd (omega arith)) (λ e. e.1) (ring_point base total k)

pub ring_in : (base total k : ℕ) → k ≤ total → (base ≤ ring_at base total k) × (ring_at base total k < base + max 1 total)
ring_in base total k l = ⊎_elim (λ h. omega arith) (λ h. omega arith) (ring_point base total k)

pub ring_closed : (base total : ℕ) → Closed (ring_at base total) total
ring_closed base total = record {
  close = omega (arith, ring_zero base total, ring_last base total);
  same = λ j k l m e.
      ⊎_elim (λ u. ⊎_elim (λ v. inl (omega arith)) (λ v. inr (omega arith)) (ring_point base total j))
      (λ u. ⊎_elim (λ v. inl (omega arith)) (λ v. inl (omega arith)) (ring_point base total j)) (ring_point base total k);
}
