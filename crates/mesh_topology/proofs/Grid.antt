-- The cells of a grid fill its border: each segment of the grid occurs once in each direction, also if the grid is a line or a
-- point. Assumes nothing.
use Prim.Native.Nat.{ℕ, zero, suc, ◌+◌, ◌*◌, ◌-◌, ◌≤◌, ◌<◌}
use mathlib.Core.Path.{◌≡◌, refl, ap}
use native.Mathlib.Omega.{arith}
use native.Mathlib.Decide.{dec_le}
use native.Mathlib.Nat.{mul-le-mul_right}
use Rattle.mesh_topology.specs.Sides.{hit, flip, sum_sides, sum, line_sum}
use Rattle.mesh_topology.specs.Quad.{grid_at, joined_lists, cell, cells, grid_edges}
use Rattle.mesh_topology.proofs.Sums.{one_of_two, one_of_three, part, sum_once}
use Rattle.mesh_topology.proofs.Hits.{hit_flip, hit_le, hit_at, sum_append}
use Rattle.mesh_topology.proofs.Line.{line_back}
use Rattle.mesh_topology.proofs.Band.{inner_sum}
use Rattle.mesh_topology.proofs.Fills.{Fills}

-- the sum of a weight over pairs of vertices, for the first R rows and C columns
abbrev over : (ℕ → ℕ → ℕ) → (P Q : ℕ → ℕ → ℕ) → ℕ → ℕ → ℕ
over f P Q R C = sum (λ r. sum (λ c. f (P r c) (Q r c)) C) R

-- the sums of a weight over the segments of a grid's rows, of its columns, and over its cells' diagonals
segments : (ℕ → ℕ → ℕ) → (ℕ → ℕ → ℕ) → ℕ → ℕ → ℕ
segments f P a b =
    over f P (λ r c. P r (suc c)) (suc a) b + over f P (λ r c. P (suc r) c) a (suc b) + over f P (λ r c. P (suc r) (suc c)) a b

module _ (f : ℕ → ℕ → ℕ) (P : ℕ → ℕ → ℕ) where
  row_sides : (r b : ℕ)
      → sum_sides f (joined_lists (cell P r) b) + f (P r 0) (P (suc r) 0) + f (P (suc r) b) (P r b)
      ≡ line_sum f (P r) b + line_sum (flip f) (P (suc r)) b
      + (sum (λ c. f (P r c) (P (suc r) c)) (suc b) + sum (λ c. f (P (suc r) c) (P r c)) (suc b))
      + (sum (λ c. f (P r c) (P (suc r) (suc c))) b + sum (λ c. f (P (suc r) (suc c)) (P r c)) b)
  unfolding joined_lists sum_sides sum
  row_sides r zero = omega arith
  row_sides r (suc b) = simp sum_append (omega (arith, row_sides r b))

  cells_sides : (a b : ℕ)
      → sum_sides f (cells P a b) + line_sum f (λ r. P r 0) a + line_sum (flip f) (P 0) b + line_sum (flip f) (λ r. P r b) a + line_sum f (P a) b
      ≡ segments f P a b + segments (flip f) P a b
  unfolding joined_lists sum_sides sum segments
  cells_sides zero b = omega arith
  cells_sides (suc a) b = simp sum_append (omega (arith, cells_sides a b, row_sides a b))

  rim : (a b c0 c1 c2 c3 : ℕ) → inner_sum (flip f) (grid_edges P a b c0 c1 c2 c3)
      ≡ line_sum f (λ r. P r 0) a + line_sum (flip f) (P 0) b + line_sum (flip f) (λ r. P r b) a + line_sum f (P a) b
  unfolding inner_sum
  rim a b c0 c1 c2 c3 =
      omega (
        arith,
        line_back (flip f) (λ k. P (a - k) 0) (λ k. P k 0) a (λ j k h. ap (λ r. P r 0) (omega arith)),
        line_back (flip f) (λ k. P a (b - k)) (P a) b (λ j k h. ap (P a) (omega arith)),
      )

-- the position of a side x→y from a vertex in the first R rows and C columns to the vertex d further on
record Spot (start b R C d x y : ℕ) : Type 0 where
  c : ℕ
  column : c < C
  low : start ≤ x
  high : x + suc b ≤ start + R * suc b + c
  end : y ≡ x + d

module _ (start b : ℕ) where
  abbrev P : ℕ → ℕ → ℕ
  P = grid_at start (suc b)

  grid_order : (r s c d : ℕ) → r < s → c ≤ b → P r c < P s d
  unfolding grid_at
  grid_order r s c d h k = omega (arith, mul-le-mul_right (suc b) h)

  pub grid_same : (r s c d : ℕ) → c ≤ b → d ≤ b → grid_at start (suc b) r c ≡ grid_at start (suc b) s d → (r ≡ s) × (c ≡ d)
  unfolding grid_at
  grid_same r s c d h k e =
      elim (dec_le s r) [
        | yes u ↦ elim (dec_le r s) [
          | yes v ↦ let q : r ≡ s = omega arith in (q, omega (arith, ap (λ n. n * suc b) q))
          | no v ↦ absurd (omega (arith, grid_order s r d c (omega arith) k))
        ]
        | no u ↦ absurd (omega (arith, grid_order r s c d (omega arith) h))
      ]

  pub grid_in : (a r c : ℕ) → r ≤ a → c ≤ b → (start ≤ grid_at start (suc b) r c) × (grid_at start (suc b) r c < start + suc a * suc b)
  unfolding grid_at
  grid_in a r c h k = omega (arith, mul-le-mul_right (suc b) h)

  -- the sides of one kind: none occurs twice, and each has its position
  kind : (Q : ℕ → ℕ → ℕ) (R C d : ℕ) → ((r c : ℕ) → Q r c ≡ P r c + d) → C ≤ suc b → (x y : ℕ)
      → (over (hit x y) P Q R C ≤ 1) × (1 ≤ over (hit x y) P Q R C → Spot start b R C d x y)
  unfolding grid_at
  kind Q R C d apart fits x y = (
    sum_once _ R
        (λ r h. sum_once _ C (λ c k. hit_le x y _ _) (λ j k u v s t. omega (arith, hit_at x y _ _ s, hit_at x y _ _ t)))
        (λ j k u v s t.
        let m = part _ C s in
        let n = part _ C t in
        omega (arith, hit_at x y _ _ m.some, hit_at x y _ _ n.some, grid_order j k m.k n.k u (omega arith))),
    λ h.
        let s = part _ R h in
        let t = part _ C s.some in
        let e = hit_at x y _ _ t.some in
        record {
          c = t.k;
          column = t.below;
          low = omega arith;
          high = omega (arith, mul-le-mul_right (suc b) s.below);
          end = omega (arith, apart s.k t.k);
        },
  )

  -- no segment occurs twice, and each leads to a greater number
  segments_at_lem : (a x y : ℕ) → (segments (hit x y) P a b ≤ 1)
      × (1 ≤ segments (hit x y) P a b → (start ≤ x) × (x < y) × (y < start + suc a * suc b))
  unfolding segments grid_at
  segments_at_lem a x y =
      let row = kind (λ r c. P r (suc c)) (suc a) b 1 (λ r c. omega arith) (omega arith) x y in
      let column = kind (λ r c. P (suc r) c) a (suc b) (suc b) (λ r c. omega arith) (omega arith) x y in
      let diagonal = kind (λ r c. P (suc r) (suc c)) a b (suc (suc b)) (λ r c. omega arith) (omega arith) x y in (
        one_of_three _ _ _ row.0 column.0 diagonal.0
            (λ h k. omega (arith, row.1 h, column.1 k))
            (λ h k. omega (arith, row.1 h, diagonal.1 k))
            (λ h k. omega (arith, column.1 h, diagonal.1 k)),
        λ h. elim (dec_le 1 (over (hit x y) P (λ r c. P r (suc c)) (suc a) b)) [
          | yes k ↦ omega (arith, row.1 k)
          | no k ↦ elim (dec_le 1 (over (hit x y) P (λ r c. P (suc r) c) a (suc b)))
              [ yes l ↦ omega (arith, column.1 l) | no l ↦ omega (arith, diagonal.1 (omega arith)) ]
        ],
      )

  module _ (a c0 c1 c2 c3 : ℕ) where
    -- the cells' sides and the border's segments reversed are the segments in both directions
    both_ways : (f g : ℕ → ℕ → ℕ) → flip f ≡ g
        → sum_sides f (cells P a b) + inner_sum g (grid_edges P a b c0 c1 c2 c3)
        ≡ segments f P a b + segments g P a b
    both_ways f g e = rw (← e) (omega (arith, cells_sides f P a b, rim f P a b c0 c1 c2 c3))

    pub grid_fills : Fills start (start + suc a * suc b) (λ f. inner_sum f (grid_edges (grid_at start (suc b)) a b c0 c1 c2 c3))
        (cells (grid_at start (suc b)) a b)
    grid_fills = record {
      even = λ f. omega (arith, both_ways f (flip f) refl, both_ways (flip f) f refl);
      once = λ x y.
          let s = segments_at_lem a x y in
          let t = segments_at_lem a y x in
          omega (
            arith,
            both_ways (hit x y) (hit y x) (hit_flip x y),
            one_of_two _ _ s.0 t.0 (λ h k. omega (arith, s.1 h, t.1 k)),
          );
      within = λ x y h.
          let e = both_ways (hit x y) (hit y x) (hit_flip x y) in
          elim (dec_le 1 (segments (hit x y) P a b))
          [ yes k ↦ omega (arith, (segments_at_lem a x y).1 k) | no k ↦ omega (arith, (segments_at_lem a y x).1 (omega arith)) ];
    }
