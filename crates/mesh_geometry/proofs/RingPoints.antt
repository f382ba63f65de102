-- The points of a triangle patch are exactly those that document 01 lists, ring by ring. Assumes nothing.
use Prim.Native.Nat.{ℕ, zero, suc, ◌+◌, ◌-◌, ◌*◌, ◌/◌, ◌%◌, ◌≤◌, ◌<◌}
use mathlib.Core.Path.{◌≡◌, sym, ◌∙◌}
use mathlib.Core.Logic.{◌↔◌}
use mathlib.Core.List.{List}
use native.Mathlib.Omega.{arith}
use native.Mathlib.Decide.{dec_le}
use native.Mathlib.Nat.{zero-add, add-zero}
use lib.Seq.{ext_get_or}
use Rattle.edge.specs.Table.{table}
use Rattle.mesh_topology.specs.Sides.{sum}
use Rattle.mesh_topology.specs.RingVertices.{ring_segments, ring_size, ring_first, vertex_on}
use Rattle.mesh_topology.proofs.RingVertices.{vertex_before, vertex_end}
use Rattle.mesh_geometry.specs.declared.Point.{Point}
use Rattle.mesh_geometry.specs.Cover.{missing}
use Rattle.mesh_geometry.specs.Faces.{at}
use Rattle.mesh_geometry.specs.Edge.{Run, GoodRun}
use Rattle.mesh_geometry.specs.TrianglePoints.{triangle_place, triangle_patch}
use Rattle.mesh_geometry.specs.OnEdge.{OnTriangle}
use Rattle.mesh_geometry.specs.RingPoints.{segments, RingPoints}
use Rattle.mesh_geometry.proofs.Edge.{far, good_some, good_to}
use Rattle.mesh_geometry.proofs.Located.{located}
use Rattle.mesh_geometry.proofs.RingAt.{outer_at, inner_at, even_end, odd_end}
use Rattle.mesh_geometry.proofs.OnEdge.{on_triangle, same_on_triangle, edge_end}

-- ---- two lists of these points are equal
module _ {e : ℕ → Run} {inside : Run} {ps ps' : List Point} (a : RingPoints e inside ps) (b : RingPoints e inside ps') where
  same_vertex : (j k o : ℕ) → 2 * j < inside.c → k < 3 → o < ring_segments (segments e) inside.c j k
      → at ps (vertex_on (segments e) inside.c j k o) ≡ at ps' (vertex_on (segments e) inside.c j k o)
  same_vertex zero k o l h m = same_on_triangle k _ _ (a.outer k o h (omega arith)) (b.outer k o h (omega arith))
  same_vertex (suc j) k o l h m =
      let i = suc j + o in
      let place : o ≡ i - suc j = omega arith in
      rw place (same_on_triangle k _ _ (a.inner (suc j) k i (omega arith) l h (omega arith) (omega arith))
      (b.inner (suc j) k i (omega arith) l h (omega arith) (omega arith)))

  same_ring : (j m : ℕ) → 2 * j < inside.c → m < ring_size (segments e) inside.c j
      → at ps (ring_first (segments e) inside.c j + m) ≡ at ps' (ring_first (segments e) inside.c j + m)
  same_ring j m l h =
      let s = located (ring_segments (segments e) inside.c j) 3 m h in
      rw (← s.is, ← vertex_before (segments e) inside.c j s.k s.i s.list s.within) (same_vertex j s.k s.i l s.list s.within)

  same_rings : (n m : ℕ) → 2 * n ≤ inside.c + 1 → m < ring_first (segments e) inside.c n → at ps m ≡ at ps' m
  same_rings n m l h =
      let s = located (ring_size (segments e) inside.c) n m h in
      rw (← s.is) (same_ring s.k s.i (omega (arith, s.list)) s.within)

  rings_even : (h : ℕ) → inside.c ≡ 2 * h → ps ≡ ps'
  rings_even h n =
      let x = a.even h n in
      let y = b.even h n in
      ext_get_or missing ps ps' (x.1 ∙ sym y.1) (λ m l. elim (dec_le (suc m) (ring_first (segments e) inside.c h)) [
        | yes k ↦ same_rings h m (omega arith) k
        | no k ↦ let z : m ≡ ring_first (segments e) inside.c h = omega (arith, x.1) in rw z (x.0 ∙ sym y.0)
      ])

  rings_odd : (h : ℕ) → inside.c ≡ 2 * h + 1 → ps ≡ ps'
  rings_odd h n = ext_get_or missing ps ps' (a.odd h n ∙ sym (b.odd h n)) (λ m l. same_rings (suc h) m (omega arith) (omega (arith, a.odd h n)))

  rings_only : ps ≡ ps'
  rings_only =
      let h = inside.c / 2 in
      elim (dec_le (2 * h + 1) inside.c) [
        | yes l ↦ rings_odd h (omega arith)
        | no l ↦ rings_even h (omega arith)
      ]

-- ---- the end of an edge is the start of the next
-- the edges of ring j; point i of edge k is at place x k i
record Corners (c : ℕ → ℕ) (n j d : ℕ) (x : ℕ → ℕ → ℕ) : Type 0 where
  some : (k : ℕ) → k < 3 → 0 < ring_segments c n j k
  first : (k : ℕ) → k < 3 → x k 0 ≡ d
  last : (k : ℕ) → k < 3 → x k (ring_segments c n j k) + d ≡ 65536

module _ (ps : List Point) (c : ℕ → ℕ) (n j d : ℕ) (x : ℕ → ℕ → ℕ) (corners : Corners c n j d x)
    (before : (k i : ℕ) → k < 3 → i < ring_segments c n j k → OnTriangle k (x k i) d (at ps (vertex_on c n j k i))) where
  at_end_lem : (k : ℕ) → k < 3 → OnTriangle k (x k (ring_segments c n j k)) d (at ps (vertex_on c n j k (ring_segments c n j k)))
  at_end_lem k h =
      let m = (k + 1) % 3 in
      let l : m < 3 = omega arith in
      rw (vertex_end c n j k h) ((edge_end k (x k (ring_segments c n j k)) d _ h (corners.last k h)).1 (rw (corners.first m l) at (before m 0 l (corners.some m l))))

  whole_edge_lem : (k i : ℕ) → k < 3 → i ≤ ring_segments c n j k → OnTriangle k (x k i) d (at ps (vertex_on c n j k i))
  whole_edge_lem k i h l = elim (dec_le (suc i) (ring_segments c n j k)) [
    | yes m ↦ before k i h m
    | no m ↦ let e : i ≡ ring_segments c n j k = omega arith in rw e (at_end_lem k h)
  ]

-- ---- `triangle_patch` is such a list
module _ (e : ℕ → Run) (inside : Run) (outer-good : (k : ℕ) → k < 3 → GoodRun (e k)) (good : GoodRun inside) where
  abbrev listed : List Point
  listed = triangle_patch (e 0) (e 1) (e 2) inside

  abbrev c : ℕ → ℕ
  c = segments e

  abbrev n : ℕ
  n = inside.c

  outer_corners : Corners c n 0 0 (λ k. (e k).q)
  outer_corners = record {
    some = λ k h. good_some (outer-good k h);
    first = λ k h. (outer-good k h).first;
    last = λ k h. omega (arith, (outer-good k h).last);
  }

  outer_before : (k i : ℕ) → k < 3 → i < (e k).c → OnTriangle k ((e k).q i) 0 (at listed (vertex_on c n 0 k i))
  unfolding table sum
  outer_before k i h l =
      rw (vertex_before c n 0 k i h l, zero-add (sum c k + i), outer_at 0 n e inside.q k i (good_some good) h l)
      (on_triangle k ((e k).q i) 0 h (omega arith) (omega (arith, good_to (outer-good k h) i (omega arith))))

  -- the places of ring j lie between its corners
  ring_fits : (j i : ℕ) → j ≤ i → i ≤ n - j → (inside.q j ≤ inside.q i) × (inside.q i + inside.q j ≤ 65536)
  ring_fits j i l h = (
    omega (arith, far inside.q n good.rises j i l (omega arith)),
    omega (arith, far inside.q n good.rises i (n - j) h (omega arith), good.mirrors j (omega arith)),
  )

  inner_corners : (j : ℕ) → 2 * suc j < n → Corners c n (suc j) (inside.q (suc j)) (λ _ o. inside.q (suc j + o))
  inner_corners j l = record {
    some = λ _ _. omega arith;
    first = λ _ _. rw add-zero;
    last = λ _ _. let m : suc j + (n - 2 * suc j) ≡ n - suc j = omega arith in rw m (omega (arith, good.mirrors (suc j) (omega arith)));
  }

  inner_before : (j k o : ℕ) → 2 * suc j < n → k < 3 → o < n - 2 * suc j
      → OnTriangle k (inside.q (suc j + o)) (inside.q (suc j)) (at listed (vertex_on c n (suc j) k o))
  unfolding table
  inner_before j k o l h m =
      let f = ring_fits (suc j) (suc j + o) (omega arith) (omega arith) in
      let step : suc j + o ≡ suc (j + o) = omega arith in
      let place : at listed (vertex_on c n (suc j) k o) ≡ triangle_place k (inside.q (suc j + o)) (inside.q (suc j)) =
      rw (vertex_before c n (suc j) k o h m, step) (inner_at n e 0 inside.q j k o h (omega arith)) in
      rw place (on_triangle k (inside.q (suc j + o)) (inside.q (suc j)) h f.0 f.1)

  inner_listed : (j k i : ℕ) → 1 ≤ j → 2 * j < n → k < 3 → j ≤ i → i ≤ n - j → OnTriangle k (inside.q i) (inside.q j) (at listed (vertex_on c n j k (i - j)))
  inner_listed zero k i g l h m u = absurd (omega arith)
  inner_listed (suc j) k i g l h m u =
      let place : suc j + (i - suc j) ≡ i = omega arith in
      rw place at (whole_edge_lem listed c n (suc j) (inside.q (suc j)) (λ _ o. inside.q (suc j + o)) (inner_corners j l) (λ k o h m. inner_before j k o l h m) k (i - suc j) h (omega arith))

  rings_listed : RingPoints e inside listed
  unfolding table
  rings_listed = record {
    outer = whole_edge_lem listed c n 0 0 (λ k. (e k).q) outer_corners outer_before;
    inner = inner_listed;
    even = λ h g. even_end n e 0 inside.q h g;
    odd = λ h g. odd_end n e 0 inside.q h g;
  }

  -- a list is that of the patch exactly if its points are those of the rings
  pub rings_exactly : (ps : List Point) → (ps ≡ triangle_patch (e 0) (e 1) (e 2) inside) ↔ RingPoints e inside ps
  rings_exactly ps = (λ h. rw h rings_listed, λ h. rings_only h rings_listed)
