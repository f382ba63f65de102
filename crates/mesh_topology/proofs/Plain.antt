-- The two triangles of a plain quad patch fill its outline. Assumes nothing.
use Prim.Native.Nat.{ℕ, suc, ◌+◌, ◌≤◌}
use mathlib.Core.Path.{◌≡◌}
use mathlib.Core.Logic.{⊎_elim}
use native.Mathlib.Omega.{arith}
use native.Mathlib.Decide.{dec_le}
use native.Mathlib.Nat.{add-zero}
use Rattle.mesh_topology.specs.Sides.{hit, flip, sum_sides, sum, line_sum}
use Rattle.mesh_topology.specs.Ring.{ring_at, ring_sum}
use Rattle.mesh_topology.specs.Quad.{plain_quad}
use Rattle.mesh_topology.specs.Closes.{Closes, Stokes}
use Rattle.mesh_topology.proofs.Sums.{one_of_three}
use Rattle.mesh_topology.proofs.Hits.{hit_le, hit_at}
use Rattle.mesh_topology.proofs.Line.{piece, line_once, line_in}
use Rattle.mesh_topology.proofs.Ring.{ring_point, ring_closed, ring_in}
use Rattle.mesh_topology.proofs.Fills.{Fills}
use Rattle.mesh_topology.proofs.Mesh.{closes}

module _ (base : ℕ) where
  abbrev F : ℕ → ℕ
  F = ring_at base 4

  -- the sides are the outline's pieces, and the diagonal in both directions
  plain_sides : (f : ℕ → ℕ → ℕ) → sum_sides f (plain_quad base) ≡ ring_sum f base 4 + f base (base + 2) + f (base + 2) base
  unfolding sum_sides sum ring_at
  plain_sides f = simp add-zero (omega arith)

  -- the diagonal is not a piece of the outline
  not_across : (x y : ℕ) → 1 ≤ line_sum (hit x y) F 4 → (x + 2 ≡ y → ⊥) × (y + 2 ≡ x → ⊥)
  not_across x y h =
      let s = piece F x y 4 h in
      ⊎_elim (λ u. ⊎_elim (λ v. omega arith) (λ v. omega arith) (ring_point base 4 (suc s.k)))
      (λ u. ⊎_elim (λ v. omega arith) (λ v. omega arith) (ring_point base 4 (suc s.k))) (ring_point base 4 s.k)

  not_both : (x y : ℕ) → 1 ≤ line_sum (hit x y) F 4 + line_sum (hit y x) F 4 → (x + 2 ≡ y → ⊥) × (y + 2 ≡ x → ⊥)
  not_both x y h = elim (dec_le 1 (line_sum (hit x y) F 4)) [
    | yes k ↦ not_across x y k
    | no k ↦ let w = not_across y x (omega arith) in (w.1, w.0)
  ]

  plain_fills : Fills base (base + 4) (λ f. ring_sum f base 4) (plain_quad base)
  plain_fills = record {
    even = λ f. omega (arith, plain_sides f, plain_sides (flip f));
    once = λ x y. omega (
      arith,
      plain_sides (hit x y),
      one_of_three _ _ _ (line_once F x y 4 (λ h. omega arith) (ring_closed base 4)) (hit_le x y base (base + 2)) (hit_le x y (base + 2) base)
          (λ h k. (not_both x y h).0 (omega (arith, hit_at x y _ _ k)))
          (λ h k. (not_both x y h).1 (omega (arith, hit_at x y _ _ k)))
          (λ h k. omega (arith, hit_at x y _ _ h, hit_at x y _ _ k)),
    );
    within = λ x y h. elim (dec_le 1 (line_sum (hit x y) F 4 + line_sum (hit y x) F 4)) [
      | yes k ↦ omega (arith, line_in F 4 base (base + 4) (ring_in base 4) x y k)
      | no k ↦ elim (dec_le 1 (hit x y base (base + 2))) [
        | yes l ↦ omega (arith, hit_at x y _ _ l)
        | no l ↦ omega (arith, hit_at x y (base + 2) base (omega (arith, plain_sides (hit x y))))
      ]
    ];
  }

  pub plain_closes : Closes base (base + 4) 4 (plain_quad base)
  plain_closes = closes _ _ _ _ (λ h. omega arith) plain_fills

  pub plain_stokes : Stokes base 4 (plain_quad base)
  plain_stokes = plain_fills.even
