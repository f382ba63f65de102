-- The ray from a spot crosses the sides of a triangle of positive orientation once more upwards than downwards if the triangle
-- holds the spot, and equally often otherwise, if the spot is on none of the sides. Assumes nothing.
use Prim.Native.Nat.{ℕ, ◌+◌, ◌*◌, ◌≤◌, ◌<◌}
use mathlib.Core.Path.{◌≡◌, ap}
use mathlib.Core.Logic.{◌⊎◌, inl, inr}
use native.Mathlib.Omega.{arith}
use native.Mathlib.Decide.{dec_le}
use Rattle.mesh_geometry.specs.declared.Point.{Point}
use Rattle.mesh_geometry.proofs.Signed.{loop}
use Rattle.mesh_geometry.proofs.Frame.{Left}
use Rattle.mesh_geometry.proofs.ExactlyOne.{Counted, once, never, counted_as}
use Rattle.mesh_geometry.proofs.Sign.{Holding, Touches, touches_back}
use Rattle.mesh_geometry.proofs.Crossing.{up, rise_or_equal, up_one, up_above, up_below, up_right, beside}
use Rattle.mesh_geometry.proofs.Weights.{Mean, mean_of, mean_turn, mean_swap, one_below, two_below, two_level, all_above, all_level}

-- the upward crossings of the triangle's sides, and of the reversed sides
abbrev pub ups : Point → Point → Point → Point → ℕ
ups s p q r = up s p q + up s q r + up s r p

abbrev pub downs : Point → Point → Point → Point → ℕ
downs s p q r = up s q p + up s r q + up s p r

-- the triangle has the positive orientation, and the spot lies on none of its sides
pub record Off (p q r s : Point) : Type 0 where
  pub turns : Left p q r
  pub pq : Touches p q s → ⊥
  pub qr : Touches q r s → ⊥
  pub rp : Touches r p s → ⊥

off_turn : {p q r s : Point} → Off p q r s → Off q r p s
off_turn o = record { turns = omega (arith, o.turns); pq = o.qr; qr = o.rp; rp = o.pq }

abbrev Count : Point → Point → Point → Point → Type 0
Count p q r s = Counted (Holding p q r s) (ups s p q r) (downs s p q r)

turn : {p q r s : Point} → Count q r p s → Count p q r s
turn = counted_as (λ h. record { pq = h.rp; qr = h.pq; rp = h.qr }) (λ h. record { pq = h.qr; qr = h.rp; rp = h.pq })
    (omega arith) (omega arith)

-- a spot at the height of P and Q, on the inner side of the two other sides, lies on P→Q
level_touches : (p q r s : Point) → (p.v ≡ s.v) × (q.v ≡ s.v) → s.v < r.v → Left q r s → Left r p s → Touches p q s
level_touches p q r s (h, k) l b c = record {
  straight = omega (arith, level p.u, level q.u, level s.u);
  along_u = omega (arith, before, after);
  along_v = omega arith;
}
  where
    level : (n : ℕ) → (n * p.v ≡ n * s.v) × (n * q.v ≡ n * s.v)
    level n = (ap (λ m. n * m) h, ap (λ m. n * m) k)

    before : p.u < s.u
    before = elim (dec_le s.u p.u) [
      | yes i ↦ absurd (omega (arith, level r.u, level s.u, rise_or_equal s.u p.u s.v r.v i (omega arith)))
      | no i ↦ omega arith
    ]

    after : s.u < q.u
    after = elim (dec_le q.u s.u) [
      | yes i ↦ absurd (omega (arith, level r.u, level s.u, rise_or_equal q.u s.u s.v r.v i (omega arith)))
      | no i ↦ omega arith
    ]

module _ (p q r s : Point) (o : Off p q r s) where
  off_pr : Touches p r s → ⊥
  off_pr t = o.rp (touches_back t)

  -- P is the only corner not above the spot
  one : p.v ≤ s.v → s.v < q.v → s.v < r.v → Count p q r s
  one h k l = go (beside s p q h k o.pq) (beside s p r h l off_pr)
    where
      flat : (up s q r ≡ 0) × (up s r p ≡ 0) × (up s q p ≡ 0) × (up s r q ≡ 0)
      flat = (up_above s q r k, up_above s r p l, up_above s q p k, up_above s r q l)

      go : Left p q s ⊎ Left q p s → Left p r s ⊎ Left r p s → Count p q r s
      go (inl a) (inr c) =
          once (record { pq = a; qr = one_below (mean_of p q r s) h k l a c; rp = c })
          (omega (arith, flat, up_one s p q h k a, up_right s p r (omega arith)))
      go (inl a) (inl c) = never (λ i. omega (arith, i.rp)) (omega (arith, flat, up_one s p q h k a, up_one s p r h l c))
      go (inr a) (inr c) = never (λ i. omega (arith, i.pq)) (omega (arith, flat, up_right s p q (omega arith), up_right s p r (omega arith)))
      go (inr a) (inl c) = absurd (omega (arith, o.turns, one_below (mean_swap (mean_of p q r s)) h k l (omega arith) (omega arith)))

  -- R is the only corner above the spot
  two : p.v ≤ s.v → q.v ≤ s.v → s.v < r.v → Count p q r s
  two h k l = go (beside s q r k l o.qr) (beside s p r h l off_pr)
    where
      flat : (up s p q ≡ 0) × (up s r p ≡ 0) × (up s q p ≡ 0) × (up s r q ≡ 0)
      flat = (up_below s p q k, up_above s r p l, up_below s q p h, up_above s r q l)

      left : Left q r s → Left r p s → Left p q s
      left b c = elim (dec_le (loop p q s) (loop p s q)) [
        | yes a ↦ absurd (o.pq (level_touches p q r s (two_level (mean_of p q r s) h k l b c a) l b c))
        | no a ↦ omega arith
      ]

      go : Left q r s ⊎ Left r q s → Left p r s ⊎ Left r p s → Count p q r s
      go (inl b) (inr c) =
          once (record { pq = left b c; qr = b; rp = c }) (omega (arith, flat, up_one s q r k l b, up_right s p r (omega arith)))
      go (inl b) (inl c) = never (λ i. omega (arith, i.rp)) (omega (arith, flat, up_one s q r k l b, up_one s p r h l c))
      go (inr b) (inr c) = never (λ i. omega (arith, i.qr)) (omega (arith, flat, up_right s q r (omega arith), up_right s p r (omega arith)))
      go (inr b) (inl c) = absurd (omega (arith, o.turns, two_below (mean_of p q r s) h k l (omega arith) (omega arith)))

  -- all corners are above the spot, or none are
  over : s.v < p.v → s.v < q.v → s.v < r.v → Count p q r s
  over h k l = never (λ i. all_above (mean_of p q r s) h k l i.pq i.qr i.rp) (omega (
    arith,
    up_above s p q h,
    up_above s q r k,
    up_above s r p l,
    up_above s q p k,
    up_above s r q l,
    up_above s p r h,
  ))

  under : p.v ≤ s.v → q.v ≤ s.v → r.v ≤ s.v → Count p q r s
  under h k l = never
      (λ i. flat (all_level mean h k l i.pq i.qr i.rp) (all_level (mean_turn mean) k l h i.qr i.rp i.pq)
      (all_level (mean_turn (mean_turn mean)) l h k i.rp i.pq i.qr))
      (omega (
        arith,
        up_below s p q k,
        up_below s q r l,
        up_below s r p h,
        up_below s q p h,
        up_below s r q k,
        up_below s p r l,
      ))
    where
      mean : Mean (loop p q s) (loop p s q) (loop q r s) (loop q s r) (loop r p s) (loop r s p) p.v q.v r.v s.v
      mean = mean_of p q r s

      flat : p.v ≡ s.v → q.v ≡ s.v → r.v ≡ s.v → ⊥
      flat a b c = omega (arith, rw (a, b, c) at o.turns)

pub triangle_counts : (p q r s : Point) → Off p q r s → Counted (Holding p q r s) (ups s p q r) (downs s p q r)
triangle_counts p q r s o =
    elim (dec_le p.v s.v) [
      | yes h ↦ elim (dec_le q.v s.v) [
        | yes k ↦ elim (dec_le r.v s.v) [
          | yes l ↦ under p q r s o h k l
          | no l ↦ two p q r s o h k (omega arith)
        ]
        | no k ↦ elim (dec_le r.v s.v) [
          | yes l ↦ turn (turn (two r p q s (off_turn (off_turn o)) l h (omega arith)))
          | no l ↦ one p q r s o h (omega arith) (omega arith)
        ]
      ]
      | no h ↦ elim (dec_le q.v s.v) [
        | yes k ↦ elim (dec_le r.v s.v) [
          | yes l ↦ turn (two q r p s (off_turn o) k l (omega arith))
          | no l ↦ turn (one q r p s (off_turn o) k (omega arith) (omega arith))
        ]
        | no k ↦ elim (dec_le r.v s.v) [
          | yes l ↦ turn (turn (one r p q s (off_turn (off_turn o)) l (omega arith) (omega arith)))
          | no l ↦ over p q r s o (omega arith) (omega arith) (omega arith)
        ]
      ]
    ]
